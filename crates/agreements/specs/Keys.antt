-- The keys of rows, as the file spells them.
use Rattle.std.specs.Prelude.{ℕ, List, codes}
use Rattle.agreements.specs.declared.key.Key.{Key}
use Rattle.agreements.specs.declared.key.Key.TheVariants as key

abbrev pub key_name : Key → List ℕ
key_name key.NetId = codes "net_id"
key_name key.JoinEuis = codes "join_euis"
key_name key.DlSettings = codes "dl_settings"
key_name key.RxDelay = codes "rx_delay"
key_name key.CfList = codes "cf_list"
key_name key.LifetimeS = codes "lifetime_s"
key_name key.AskS = codes "ask_s"
key_name key.KekLabel = codes "kek_label"
key_name key.Kek = codes "kek"
key_name key.Address = codes "address"
key_name key.Passive = codes "passive"
key_name key.PassiveS = codes "passive_s"
key_name key.Handover = codes "handover"
key_name key.HandoverS = codes "handover_s"
key_name key.Activation = codes "activation"
key_name key.JoinEui = codes "join_eui"
key_name key.AppId = codes "app_id"
key_name key.GatewayId = codes "gateway_id"
key_name key.DevEui = codes "dev_eui"
key_name key.NwkKey = codes "nwk_key"
key_name key.AppKey = codes "app_key"
key_name key.Home = codes "home"
key_name key.App = codes "app"
key_name key.Roaming = codes "roaming"
key_name key.CarryApp = codes "carry_app"
key_name key.ProfileTime = codes "profile_time"
