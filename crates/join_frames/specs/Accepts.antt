-- The join-accept (LoRaWAN 1.1, 6.2.3). Numbers are little-endian.
use Rattle.std.specs.Prelude.{◌≡◌, ℕ, ◌<◌, ◌/◌, ◌^◌, Bool, true, false, List, [], ◌∷◌, ◌++◌, length, Option, Some, None, IfSome}
use Rattle.std.specs.Int.{w16, w32, w64, to_le_bytes}
use Rattle.std.specs.List.{range_with_len, flat_map}
use Rattle.aes_cmac.specs.Aes.{decrypted, IsBlock}
use Rattle.aes_cmac.specs.Mac.{block}
use Rattle.key_vault.specs.Keys.{js_int_key}
use Rattle.wire_ids.specs.Numbers.{wire_bytes}
use Rattle.key_vault.specs.Table.{accept_key}
use Rattle.wire_ids.specs.declared.eui.Eui.{Eui}
use Rattle.join_frames.specs.Mics.{mic}
use Rattle.join_frames.specs.declared.accept.Accept.{Accept}
use Rattle.join_frames.specs.declared.accept.AcceptKind.{AcceptKind}
use Rattle.join_frames.specs.declared.accept.AcceptKind.TheVariants.{Join, Rejoin0, Rejoin1, Rejoin2}

-- JoinReqType: what the accept answers
abbrev pub join_req_type : AcceptKind → ℕ
join_req_type Join = 0xff
join_req_type Rejoin0 = 0
join_req_type Rejoin1 = 1
join_req_type Rejoin2 = 2

abbrev pub is_rejoin : AcceptKind → Bool
is_rejoin Join = false
is_rejoin Rejoin0 = true
is_rejoin Rejoin1 = true
is_rejoin Rejoin2 = true

-- the CFList, which is optional
abbrev pub cf_list : Option (List ℕ) → List ℕ
cf_list None = []
cf_list (Some cf) = cf

-- JoinNonce, Home_NetID, DevAddr, DLSettings and RxDelay
unfoldable pub fixed_fields : Accept → List ℕ
fixed_fields a = wire_bytes a.seed.nonce ++ (wire_bytes a.net ++ (to_le_bytes w32 a.addr.0 ++ a.radio.dl ∷ a.radio.rx_delay ∷ []))

-- the fields, which end with the CFList
abbrev pub accept_fields : Accept → List ℕ
accept_fields a = fixed_fields a ++ cf_list a.radio.cf

-- what the MIC is taken of: JoinReqType, JoinEUI, the counter of the request, MHDR and the fields
unfoldable pub mic_text : Accept → List ℕ
mic_text a = join_req_type a.kind ∷ to_le_bytes w64 a.seed.join_eui.0 ++ (to_le_bytes w16 a.seed.counter ++ 0x20 ∷ accept_fields a)

-- the MIC, under JSIntKey
abbrev pub accept_mic : List ℕ → Accept → List ℕ
accept_mic nwk a = mic (js_int_key nwk a.dev.0) (mic_text a)

-- the AES decrypt operation on each block of 16 bytes
unfoldable pub sealed : List ℕ → List ℕ → List ℕ
sealed key text = flat_map (λ i. decrypted key (block text i)) (range_with_len 0 (length text / 16))

-- the accept's bytes under the device's NwkKey: MHDR, and the fields and the MIC, encrypted
unfoldable pub accept_text : List ℕ → Accept → List ℕ
accept_text nwk a = 0x20 ∷ sealed (accept_key nwk a.dev.0 (is_rejoin a.kind)) (accept_fields a ++ accept_mic nwk a)

-- the fields that the bytes tell are such as an accept can have
pub record HasRanges (a : Accept) : Type 0 where
  pub nonce : a.seed.nonce < 2 ^ 24
  pub net : a.net < 2 ^ 24
  pub addr : a.addr.0 < 2 ^ 32
  pub dl : a.radio.dl < 256
  pub rx_delay : a.radio.rx_delay < 256
  pub cf : IfSome a.radio.cf IsBlock

-- the accept answers this request
pub record AnswersRequest (kind : AcceptKind) (dev join_eui : Eui) (counter : ℕ) (a : Accept) : Type 0 where
  pub same_kind : a.kind ≡ kind
  pub same_dev : a.dev ≡ dev
  pub same_join_eui : a.seed.join_eui ≡ join_eui
  pub same_counter : a.seed.counter ≡ counter
