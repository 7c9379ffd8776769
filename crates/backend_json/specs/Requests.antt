-- The messages that are read, their members in the order in which they are looked at (TS002, Messages and Payloads).
use Rattle.std.specs.Prelude.{◌^◌, ℕ, List, false, Option, Some, None, is_some, unwrap_or, if◌then◌else◌, Result, Ok}
use Rattle.serde_json.specs.Data.{Data}
use Rattle.serde_json.specs.Find.{as_bool, as_str}
use Rattle.wire_ids.specs.declared.radio.Radio.{Radio}
use Rattle.backend_json.specs.declared.head.Head.{Head}
use Rattle.backend_json.specs.declared.member.Key.{Key}
use Rattle.backend_json.specs.declared.member.Key.TheVariants as member
use Rattle.backend_json.specs.declared.message_type.MessageType.{MessageType}
use Rattle.backend_json.specs.declared.message_type.MessageType.TheVariants as kind
use Rattle.backend_json.specs.declared.request.JoinRequest.{JoinRequest}
use Rattle.backend_json.specs.declared.request.AppSKeyRequest.{AppSKeyRequest}
use Rattle.backend_json.specs.declared.request.HomeNsRequest.{HomeNsRequest}
use Rattle.backend_json.specs.declared.request.UplinkRequest.{UplinkRequest}
use Rattle.backend_json.specs.declared.request.XmitDataRequest.{XmitDataRequest}
use Rattle.backend_json.specs.declared.request.XmitUplinkRequest.{XmitUplinkRequest}
use Rattle.backend_json.specs.declared.request.Request.{Request}
use Rattle.backend_json.specs.declared.request.Request.TheVariants.{JoinReq, RejoinReq, AppSKeyReq, HomeNSReq, UplinkReq, XmitDataReq, XmitUplink, Unknown}
use Rattle.backend_json.specs.Forms.{byte_form, bytes_form, cf_list_form, dev_addr_form, eui_form, peer_form, sender_form, session_form, type_form, whole_form}
use Rattle.backend_json.specs.Members.{◌>>=◌, found_at, needed, optional, place_of}

-- the common members
unfoldable pub head_in : Data → Result Head Key
head_in d = do
  protocol_version ← needed as_str member.ProtocolVersion d
  sender ← needed sender_form member.SenderId d
  receiver ← needed peer_form member.ReceiverId d
  transaction_id ← needed (whole_form (2 ^ 32)) member.TransactionId d
  message_type ← needed type_form member.MessageType d
  Ok (record { protocol_version = protocol_version; sender = sender; receiver = receiver; transaction_id = transaction_id; message_type = message_type })

-- a CFList without digits is none
abbrev pub cf_list_given : Option (Option (List ℕ)) → Option (List ℕ)
cf_list_given None = None
cf_list_given (Some cf) = cf

-- the radio parameters
unfoldable pub radio_in : Data → Result Radio Key
radio_in d = do
  dl ← needed byte_form member.DlSettings d
  rx_delay ← needed (whole_form 16) member.RxDelay d
  cf ← optional cf_list_form member.CfList d
  Ok (record { dl = dl; rx_delay = rx_delay; cf = cf_list_given cf })

-- the members of a JoinReq or a RejoinReq
unfoldable pub join_req_in : Data → Result JoinRequest Key
join_req_in d = do
  mac_version ← needed as_str member.MacVersion d
  phy_payload ← needed bytes_form member.PhyPayload d
  dev_eui ← needed eui_form member.DevEui d
  dev_addr ← needed dev_addr_form member.DevAddr d
  radio ← radio_in d
  Ok (record { mac_version = mac_version; phy_payload = phy_payload; dev_eui = dev_eui; dev_addr = dev_addr; radio = radio })

unfoldable pub app_s_key_req_in : Data → Result AppSKeyRequest Key
app_s_key_req_in d = do
  dev_eui ← needed eui_form member.DevEui d
  session_key_id ← needed session_form member.SessionKeyId d
  Ok (record { dev_eui = dev_eui; session_key_id = session_key_id })

unfoldable pub home_ns_req_in : Data → Result HomeNsRequest Key
home_ns_req_in d = do
  dev_eui ← needed eui_form member.DevEui d
  Ok (record { dev_eui = dev_eui })

unfoldable pub uplink_req_in : Data → Result UplinkRequest Key
uplink_req_in d = do
  phy_payload ← needed bytes_form member.PhyPayload d
  data_rate ← needed (whole_form 8) member.DataRate d
  Ok (record { phy_payload = phy_payload; data_rate = data_rate })

-- an application's downlink; Confirmed is false where it is missing
unfoldable pub xmit_data_req_in : Data → Result XmitDataRequest Key
xmit_data_req_in d = do
  frm_payload ← needed bytes_form member.FrmPayload d
  session_key_id ← needed session_form member.SessionKeyId d
  dev_eui ← needed eui_form member.DownlinkDevEui d
  f_port ← needed (whole_form 256) member.FPort d
  f_cnt_down ← needed (whole_form (2 ^ 32)) member.FCntDown d
  confirmed ← optional as_bool member.Confirmed d
  Ok (record { frm_payload = frm_payload; session_key_id = session_key_id; dev_eui = dev_eui; f_port = f_port; f_cnt_down = f_cnt_down; confirmed = unwrap_or confirmed false })

-- an uplink that a network passes on
unfoldable pub xmit_uplink_in : Data → Result XmitUplinkRequest Key
xmit_uplink_in d = do
  phy_payload ← needed bytes_form member.PhyPayload d
  data_rate ← needed (whole_form 8) member.UplinkDataRate d
  Ok (record { phy_payload = phy_payload; data_rate = data_rate })

-- an XmitDataReq is an uplink where it has the name PHYPayload, whatever its value, and else a downlink
unfoldable pub xmit_in : Data → Result Request Key
xmit_in d =
    if is_some (found_at (place_of member.PhyPayload) d) then (xmit_uplink_in d >>= λ request. Ok (XmitUplink request))
    else (xmit_data_req_in d >>= λ request. Ok (XmitDataReq request))

-- of a type that isn't served the common members alone are read
unfoldable pub request_in : MessageType → Data → Result Request Key
request_in kind.JoinReq d = join_req_in d >>= λ request. Ok (JoinReq request)
request_in kind.RejoinReq d = join_req_in d >>= λ request. Ok (RejoinReq request)
request_in kind.AppSKeyReq d = app_s_key_req_in d >>= λ request. Ok (AppSKeyReq request)
request_in kind.HomeNSReq d = home_ns_req_in d >>= λ request. Ok (HomeNSReq request)
request_in kind.UplinkReq d = uplink_req_in d >>= λ request. Ok (UplinkReq request)
request_in kind.XmitDataReq d = xmit_in d
request_in kind.Unknown d = Ok Unknown
