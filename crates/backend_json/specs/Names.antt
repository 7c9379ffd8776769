-- The names of the members that are written.
use Rattle.std.specs.Prelude.{ℕ, List, codes}
use Rattle.backend_json.specs.declared.name.Name.{Name}
use Rattle.backend_json.specs.declared.name.Name.TheVariants as name

abbrev pub name_text : Name → List ℕ
name_text name.AesKey = codes "AESKey"
name_text name.AppSKey = codes "AppSKey"
name_text name.Description = codes "Description"
name_text name.DevEui = codes "DevEUI"
name_text name.FCntUp = codes "FCntUp"
name_text name.FNwkSIntKey = codes "FNwkSIntKey"
name_text name.HNetId = codes "HNetID"
name_text name.KekLabel = codes "KEKLabel"
name_text name.Lifetime = codes "Lifetime"
name_text name.MessageType = codes "MessageType"
name_text name.NwkSEncKey = codes "NwkSEncKey"
name_text name.PhyPayload = codes "PHYPayload"
name_text name.ProtocolVersion = codes "ProtocolVersion"
name_text name.ReceiverId = codes "ReceiverID"
name_text name.Result = codes "Result"
name_text name.ResultCode = codes "ResultCode"
name_text name.SNwkSIntKey = codes "SNwkSIntKey"
name_text name.SenderId = codes "SenderID"
name_text name.SessionKeyId = codes "SessionKeyID"
name_text name.TransactionId = codes "TransactionID"
