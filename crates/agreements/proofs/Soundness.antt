-- That each valid text's tables are sound.
use Rattle.std.proofs.Common.{◌≡◌, ℕ, ◌^◌, ◌-◌, ◌≤◌, ◌==◌, ◌||◌, ◌&&◌, Bool, true, false, if◌then◌else◌, List, [], ◌∷◌, ◌++◌, length, map, IsTrue, All, Option, Some, None, Result, Ok, Err, is_some, codes, nat_lt, nat_le, eqb, unwrap_or, refl, ap, sym, arith}
use Rattle.std.proofs.Math.Path.{subst}
use Rattle.std.proofs.lemmas.Bool.{and_parts, false≢true, leb-true, or_from, or_parts}
use Rattle.std.proofs.lemmas.List.{append-nil}
use Rattle.std.proofs.lemmas.List.Elements.{All-append, All-map, All-nil, All-push}
use Rattle.std.proofs.lemmas.Option.{option_and_then_some}
use Rattle.std.specs.List.{IsDistinct, list_any}
use Rattle.std.specs.Str.{bytes_eq}
use Rattle.toml.specs.Data.{Data, Members, as_bool, as_str, as_table, get_member}
use Rattle.wire_ids.specs.declared.eui.Eui.{Eui}
use Rattle.agreements.specs.declared.flaw.Flaw.{Flaw}
use Rattle.agreements.specs.declared.key.Key.TheVariants as key
use Rattle.agreements.specs.declared.device.Identity.{Identity}
use Rattle.agreements.specs.declared.device.Standing.{Standing}
use Rattle.agreements.specs.declared.rows.DeskRow.{DeskRow}
use Rattle.agreements.specs.declared.rows.NetworkRow.{NetworkRow}
use Rattle.agreements.specs.declared.rows.AgreementRow.{AgreementRow}
use Rattle.agreements.specs.declared.rows.ApplicationRow.{ApplicationRow}
use Rattle.agreements.specs.declared.rows.JoinServerRow.{JoinServerRow}
use Rattle.agreements.specs.declared.rows.GatewayRow.{GatewayRow}
use Rattle.agreements.specs.declared.rows.DeviceRow.{DeviceRow}
use Rattle.agreements.specs.Forms.{array_of, bytes_of, cf_list_of, dl_settings_of, eui_of, if_holds, is_printable, net_of, number_of, passive_of, printable_of}
use Rattle.agreements.specs.LookUps.{Belongs}
use Rattle.agreements.specs.Rows.{agreement_in, application_in, desk_in, device_in, eui_array, gateway_in, identity_in, in_element, join_euis_in, join_server_in, network_in, next_eui, some_euis, standing_in}
use Rattle.agreements.specs.Rows.{has_agreement, has_application, has_device, has_eui, has_gateway, has_join_server, has_network, labels_a_network, labels_an_application}
use Rattle.agreements.specs.Sound.{IsLabel, IsSound}
use Rattle.agreements.specs.Steps.{all_after, known, need, numbered, once, or_else, read_as}
use Rattle.agreements.specs.Walk.{Config, desk_at, document_of, in_desk, parties_in, rows_in, tables_at, tables_in, tables_of}
use Rattle.agreements.proofs.Distinct.{distinct_none, distinct_one, distinct_row, none_mapped}
use Rattle.agreements.proofs.Walking.{never, ok_same, reached, section_keeps, tested, walk_keeps, walk_length, was_known, was_needed, was_new}

-- labels

held : {A : Type 0} (test : Bool) (x a : A) → if_holds test x ≡ Some a → (test ≡ true) × (x ≡ a)
held true x a h = (refl, ap (λ o. unwrap_or o x) h)
held false x a h = absurd (false≢true (ap is_some h))

label_text : (text label : List ℕ) → if_holds ((nat_le 1 (length text) && nat_le (length text) 32) && is_printable text) text ≡ Some label → IsLabel label
label_text text label h =
    let test = held ((nat_le 1 (length text) && nat_le (length text) 32) && is_printable text) text label h in
    let both = and_parts (nat_le 1 (length text) && nat_le (length text) 32) (is_printable text) test.0 in
    let ends = and_parts (nat_le 1 (length text)) (nat_le (length text) 32) both.0 in
    subst IsLabel test.1 (record { some = leb-true 1 (length text) ends.0; few = leb-true (length text) 32 ends.1; printable = both.1 })

label_form : (d : Data) (label : List ℕ) → printable_of 1 32 d ≡ Some label → IsLabel label
unfolding printable_of
label_form d label h = option_and_then_some _ (as_str d) label h (λ text is form. label_text text label form)

label_of : (row : Data) (label : List ℕ) → need key.KekLabel (printable_of 1 32) row ≡ Ok label → IsLabel label
label_of row label h = let read = was_needed key.KekLabel (printable_of 1 32) row label h in label_form read.0 label read.1

-- networks

abbrev NetworkFacts : ℕ → List NetworkRow → NetworkRow → Type 0
NetworkFacts desk before r = ((desk == r.net_id || has_network r.net_id before) ≡ false) × (labels_a_network r.kek_label before ≡ false) × IsLabel r.kek_label

network_facts : (desk : ℕ) (before : List NetworkRow) (d : Data) (r : NetworkRow) → network_in desk before d ≡ Ok r → NetworkFacts desk before r
unfolding network_in
network_facts desk before d r h =
    let net = reached (need key.NetId net_of d) _ r h in
    let new = reached (once key.NetId (desk == net.0 || has_network net.0 before)) _ r net.2 in
    let label = reached (need key.KekLabel (printable_of 1 32) d) _ r new.2 in
    let own = reached (once key.KekLabel (labels_a_network label.0 before)) _ r label.2 in
    let kek = reached (need key.Kek (bytes_of 16) d) _ r own.2 in
    let address = reached (need key.Address (printable_of 1 64) d) _ r kek.2 in
    subst (NetworkFacts desk before) (ok_same _ r address.2) (was_new _ _ _ new.1, was_new _ _ _ own.1, label_of d label.0 label.1)

abbrev NetworksKeep : ℕ → List NetworkRow → Type 0
NetworksKeep desk rows =
    IsDistinct eqb (desk ∷ map (λ (r : NetworkRow). r.net_id) rows)
    × IsDistinct bytes_eq (map (λ (r : NetworkRow). r.kek_label) rows)
    × All (λ (r : NetworkRow). IsLabel r.kek_label) rows

networks_keep : (desk : ℕ) (before : List NetworkRow) (d : Data) (r : NetworkRow) → NetworksKeep desk before → network_in desk before d ≡ Ok r → NetworksKeep desk (before ++ r ∷ [])
networks_keep desk before d r kept h =
    let facts = network_facts desk before d r h in
    let news = or_parts (desk == r.net_id) (has_network r.net_id before) facts.0 in (
      distinct_row eqb (desk ∷ []) (λ (n : NetworkRow). n.net_id) before r kept.0 (or_from (desk == r.net_id) false news.0 refl) news.1,
      distinct_row bytes_eq [] (λ (n : NetworkRow). n.kek_label) before r kept.1 refl facts.1,
      All-push (λ (n : NetworkRow). IsLabel n.kek_label) before r kept.2 facts.2,
    )

-- agreements

abbrev AgreementFacts : List NetworkRow → List AgreementRow → AgreementRow → Type 0
AgreementFacts networks before r = (has_agreement r.net_id before ≡ false) × IsTrue (has_network r.net_id networks)

agreement_facts : (networks : List NetworkRow) (before : List AgreementRow) (d : Data) (r : AgreementRow) → agreement_in networks before d ≡ Ok r → AgreementFacts networks before r
unfolding agreement_in
agreement_facts networks before d r h =
    let net = reached (need key.NetId net_of d) _ r h in
    let new = reached (once key.NetId (has_agreement net.0 before)) _ r net.2 in
    let there = reached (known key.NetId (has_network net.0 networks)) _ r new.2 in
    let passive = reached (need key.Passive passive_of d) _ r there.2 in
    let passive_s = reached (or_else 600 key.PassiveS (number_of 1 (2 ^ 31)) d) _ r passive.2 in
    let handover = reached (need key.Handover as_bool d) _ r passive_s.2 in
    let handover_s = reached (or_else 3600 key.HandoverS (number_of 1 (2 ^ 31)) d) _ r handover.2 in
    let activation = reached (need key.Activation as_bool d) _ r handover_s.2 in
    subst (AgreementFacts networks before) (ok_same _ r activation.2) (was_new _ _ _ new.1, was_known _ _ _ there.1)

abbrev AgreementsKeep : List NetworkRow → List AgreementRow → Type 0
AgreementsKeep networks rows =
    IsDistinct eqb (map (λ (r : AgreementRow). r.net_id) rows) × All (λ (r : AgreementRow). IsTrue (has_network r.net_id networks)) rows

agreements_keep : (networks : List NetworkRow) (before : List AgreementRow) (d : Data) (r : AgreementRow) → AgreementsKeep networks before → agreement_in networks before d ≡ Ok r → AgreementsKeep networks (before ++ r ∷ [])
agreements_keep networks before d r kept h =
    let facts = agreement_facts networks before d r h in (
      distinct_row eqb [] (λ (a : AgreementRow). a.net_id) before r kept.0 refl facts.0,
      All-push (λ (a : AgreementRow). IsTrue (has_network a.net_id networks)) before r kept.1 facts.1,
    )

-- parties: the desk's own names, then the others' in the order of the sections

abbrev own : List Eui → List ℕ
own euis = map (λ (e : Eui). e.0) euis

abbrev servers : List Eui → List JoinServerRow → List ℕ
servers euis join_servers = own euis ++ map (λ (r : JoinServerRow). r.join_eui.0) join_servers

abbrev owners : List Eui → List JoinServerRow → List ApplicationRow → List ℕ
owners euis join_servers applications = servers euis join_servers ++ map (λ (r : ApplicationRow). r.app_id.0) applications

abbrev everyone : List Eui → List JoinServerRow → List ApplicationRow → List GatewayRow → List ℕ
everyone euis join_servers applications gateways = owners euis join_servers applications ++ map (λ (r : GatewayRow). r.gateway_id.0) gateways

eui_keeps : (before : List Eui) (d : Data) (e : Eui) → IsDistinct eqb (own before) → next_eui before d ≡ Ok e → IsDistinct eqb (own (before ++ e ∷ []))
unfolding next_eui
eui_keeps before d e kept h =
    let eui = reached (read_as key.JoinEuis (eui_of d)) _ e h in
    let new = reached (once key.JoinEuis (has_eui eui.0 before)) _ e eui.2 in
    let there = was_new _ _ _ new.1 in
    distinct_row eqb [] (λ (x : Eui). x.0) before e kept refl (subst (λ (x : Eui). has_eui x before ≡ false) (ok_same _ e new.2) there)

not_own : (euis : List Eui) (e : Eui) → has_eui e euis ≡ false → list_any (λ k. k == e.0) (own euis) ≡ false
not_own euis e none = none_mapped (λ k. k == e.0) [] (λ (x : Eui). x.0) euis refl none

not_server : (euis : List Eui) (join_servers : List JoinServerRow) (e : Eui) → has_eui e euis ≡ false → has_join_server e join_servers ≡ false → list_any (λ k. k == e.0) (servers euis join_servers) ≡ false
not_server euis join_servers e none nones = none_mapped (λ k. k == e.0) (own euis) (λ (r : JoinServerRow). r.join_eui.0) join_servers (not_own euis e none) nones

abbrev JoinServerFacts : List Eui → List JoinServerRow → JoinServerRow → Type 0
JoinServerFacts euis before r = (has_eui r.join_eui euis || has_join_server r.join_eui before) ≡ false

join_server_facts : (euis : List Eui) (before : List JoinServerRow) (d : Data) (r : JoinServerRow) → join_server_in euis before d ≡ Ok r → JoinServerFacts euis before r
unfolding join_server_in
join_server_facts euis before d r h =
    let eui = reached (need key.JoinEui eui_of d) _ r h in
    let new = reached (once key.JoinEui (has_eui eui.0 euis || has_join_server eui.0 before)) _ r eui.2 in
    let address = reached (need key.Address (printable_of 1 64) d) _ r new.2 in
    subst (JoinServerFacts euis before) (ok_same _ r address.2) (was_new _ _ _ new.1)

join_servers_keep : (euis : List Eui) (before : List JoinServerRow) (d : Data) (r : JoinServerRow) → IsDistinct eqb (servers euis before) → join_server_in euis before d ≡ Ok r → IsDistinct eqb (servers euis (before ++ r ∷ []))
join_servers_keep euis before d r kept h =
    let news = or_parts (has_eui r.join_eui euis) (has_join_server r.join_eui before) (join_server_facts euis before d r h) in
    distinct_row eqb (own euis) (λ (j : JoinServerRow). j.join_eui.0) before r kept (not_own euis r.join_eui news.0) news.1

abbrev ApplicationFacts : List Eui → List JoinServerRow → List NetworkRow → List ApplicationRow → ApplicationRow → Type 0
ApplicationFacts euis join_servers networks before r =
    (((has_eui r.app_id euis || has_join_server r.app_id join_servers) || has_application r.app_id before) ≡ false)
    × ((labels_a_network r.kek_label networks || labels_an_application r.kek_label before) ≡ false) × IsLabel r.kek_label

application_facts : (euis : List Eui) (join_servers : List JoinServerRow) (networks : List NetworkRow) (before : List ApplicationRow) (d : Data) (r : ApplicationRow) → application_in euis join_servers networks before d ≡ Ok r → ApplicationFacts euis join_servers networks before r
unfolding application_in
application_facts euis join_servers networks before d r h =
    let app = reached (need key.AppId eui_of d) _ r h in
    let new = reached (once key.AppId ((has_eui app.0 euis || has_join_server app.0 join_servers) || has_application app.0 before)) _ r app.2 in
    let label = reached (need key.KekLabel (printable_of 1 32) d) _ r new.2 in
    let own_label = reached (once key.KekLabel (labels_a_network label.0 networks || labels_an_application label.0 before)) _ r label.2 in
    let kek = reached (need key.Kek (bytes_of 16) d) _ r own_label.2 in
    subst (ApplicationFacts euis join_servers networks before) (ok_same _ r kek.2) (was_new _ _ _ new.1, was_new _ _ _ own_label.1, label_of d label.0 label.1)

abbrev labels : List NetworkRow → List ApplicationRow → List (List ℕ)
labels networks applications = map (λ (r : NetworkRow). r.kek_label) networks ++ map (λ (r : ApplicationRow). r.kek_label) applications

abbrev ApplicationsKeep : List Eui → List JoinServerRow → List NetworkRow → List ApplicationRow → Type 0
ApplicationsKeep euis join_servers networks rows =
    IsDistinct eqb (owners euis join_servers rows) × IsDistinct bytes_eq (labels networks rows) × All (λ (r : ApplicationRow). IsLabel r.kek_label) rows

applications_keep : (euis : List Eui) (join_servers : List JoinServerRow) (networks : List NetworkRow) (before : List ApplicationRow) (d : Data) (r : ApplicationRow) → ApplicationsKeep euis join_servers networks before
    → application_in euis join_servers networks before d ≡ Ok r → ApplicationsKeep euis join_servers networks (before ++ r ∷ [])
applications_keep euis join_servers networks before d r kept h =
    let facts = application_facts euis join_servers networks before d r h in
    let news = or_parts (has_eui r.app_id euis || has_join_server r.app_id join_servers) (has_application r.app_id before) facts.0 in
    let foreign = or_parts (has_eui r.app_id euis) (has_join_server r.app_id join_servers) news.0 in
    let labelled = or_parts (labels_a_network r.kek_label networks) (labels_an_application r.kek_label before) facts.1 in (
      distinct_row eqb (servers euis join_servers) (λ (a : ApplicationRow). a.app_id.0) before r kept.0 (not_server euis join_servers r.app_id foreign.0 foreign.1) news.1,
      distinct_row bytes_eq (map (λ (n : NetworkRow). n.kek_label) networks) (λ (a : ApplicationRow). a.kek_label) before r kept.1 (none_mapped (λ k. bytes_eq k r.kek_label) [] (λ (n : NetworkRow). n.kek_label) networks refl labelled.0) labelled.1,
      All-push (λ (a : ApplicationRow). IsLabel a.kek_label) before r kept.2 facts.2,
    )

abbrev GatewayFacts : List Eui → List JoinServerRow → List ApplicationRow → List GatewayRow → GatewayRow → Type 0
GatewayFacts euis join_servers applications before r =
    ((has_eui r.gateway_id euis || has_join_server r.gateway_id join_servers) || (has_application r.gateway_id applications || has_gateway r.gateway_id before)) ≡ false

gateway_facts : (euis : List Eui) (join_servers : List JoinServerRow) (applications : List ApplicationRow) (before : List GatewayRow) (d : Data) (r : GatewayRow) → gateway_in euis join_servers applications before d ≡ Ok r → GatewayFacts euis join_servers applications before r
unfolding gateway_in
gateway_facts euis join_servers applications before d r h =
    let id = reached (need key.GatewayId eui_of d) _ r h in
    let new = reached (once key.GatewayId ((has_eui id.0 euis || has_join_server id.0 join_servers) || (has_application id.0 applications || has_gateway id.0 before))) _ r id.2 in
    subst (GatewayFacts euis join_servers applications before) (ok_same _ r new.2) (was_new _ _ _ new.1)

gateways_keep : (euis : List Eui) (join_servers : List JoinServerRow) (applications : List ApplicationRow) (before : List GatewayRow) (d : Data) (r : GatewayRow) → IsDistinct eqb (everyone euis join_servers applications before)
    → gateway_in euis join_servers applications before d ≡ Ok r → IsDistinct eqb (everyone euis join_servers applications (before ++ r ∷ []))
gateways_keep euis join_servers applications before d r kept h =
    let news = or_parts (has_eui r.gateway_id euis || has_join_server r.gateway_id join_servers) (has_application r.gateway_id applications || has_gateway r.gateway_id before) (gateway_facts euis join_servers applications before d r h) in
    let foreign = or_parts (has_eui r.gateway_id euis) (has_join_server r.gateway_id join_servers) news.0 in
    let others = or_parts (has_application r.gateway_id applications) (has_gateway r.gateway_id before) news.1 in
    distinct_row eqb (owners euis join_servers applications) (λ (g : GatewayRow). g.gateway_id.0) before r kept
    (none_mapped (λ k. k == r.gateway_id.0) (servers euis join_servers) (λ (a : ApplicationRow). a.app_id.0) applications (not_server euis join_servers r.gateway_id foreign.0 foreign.1) others.0) others.1

-- devices

abbrev IdentityFacts : List Eui → List DeviceRow → Eui → Eui → Type 0
IdentityFacts euis before dev_eui join_eui = (has_device dev_eui before ≡ false) × IsTrue (has_eui join_eui euis)

identity_facts : (euis : List Eui) (before : List DeviceRow) (d : Data) (id : Identity) → identity_in euis before d ≡ Ok id → IdentityFacts euis before id.dev_eui id.join_eui
unfolding identity_in
identity_facts euis before d id h =
    let dev = reached (need key.DevEui eui_of d) _ id h in
    let new = reached (once key.DevEui (has_device dev.0 before)) _ id dev.2 in
    let join = reached (need key.JoinEui eui_of d) _ id new.2 in
    let there = reached (known key.JoinEui (has_eui join.0 euis)) _ id join.2 in
    let nwk = reached (need key.NwkKey (bytes_of 16) d) _ id there.2 in
    let app = reached (need key.AppKey (bytes_of 16) d) _ id nwk.2 in
    subst (λ (x : Identity). IdentityFacts euis before x.dev_eui x.join_eui) (ok_same _ id app.2) (was_new _ _ _ new.1, was_known _ _ _ there.1)

abbrev StandingFacts : ℕ → List NetworkRow → List ApplicationRow → ℕ → Eui → Type 0
StandingFacts desk networks applications home app = IsTrue (desk == home || has_network home networks) × IsTrue (has_application app applications)

standing_facts : (desk : ℕ) (networks : List NetworkRow) (applications : List ApplicationRow) (d : Data) (st : Standing) → standing_in desk networks applications d ≡ Ok st → StandingFacts desk networks applications st.home st.app
unfolding standing_in
standing_facts desk networks applications d st h =
    let home = reached (need key.Home net_of d) _ st h in
    let there = reached (known key.Home (desk == home.0 || has_network home.0 networks)) _ st home.2 in
    let app = reached (need key.App eui_of d) _ st there.2 in
    let owner = reached (known key.App (has_application app.0 applications)) _ st app.2 in
    let roaming = reached (or_else true key.Roaming as_bool d) _ st owner.2 in
    let carry = reached (or_else false key.CarryApp as_bool d) _ st roaming.2 in
    let time = reached (or_else [] key.ProfileTime (printable_of 0 32) d) _ st carry.2 in
    subst (λ (x : Standing). StandingFacts desk networks applications x.home x.app) (ok_same _ st time.2) (was_known _ _ _ there.1, was_known _ _ _ owner.1)

abbrev DeviceFacts : DeskRow → List NetworkRow → List ApplicationRow → List DeviceRow → DeviceRow → Type 0
DeviceFacts desk networks applications before r = IdentityFacts desk.join_euis before r.dev_eui r.join_eui × Belongs desk.net_id networks applications r

device_facts : (desk : DeskRow) (networks : List NetworkRow) (applications : List ApplicationRow) (before : List DeviceRow) (d : Data) (r : DeviceRow) → device_in desk networks applications before d ≡ Ok r → DeviceFacts desk networks applications before r
unfolding device_in
device_facts desk networks applications before d r h =
    let id = reached (identity_in desk.join_euis before d) _ r h in
    let st = reached (standing_in desk.net_id networks applications d) _ r id.2 in
    subst (DeviceFacts desk networks applications before) (ok_same _ r st.2)
    (identity_facts desk.join_euis before d id.0 id.1, standing_facts desk.net_id networks applications d st.0 st.1)

abbrev DevicesKeep : DeskRow → List NetworkRow → List ApplicationRow → List DeviceRow → Type 0
DevicesKeep desk networks applications rows =
    IsDistinct eqb (map (λ (r : DeviceRow). r.dev_eui.0) rows)
    × All (λ (r : DeviceRow). IsTrue (has_eui r.join_eui desk.join_euis)) rows
    × All (Belongs desk.net_id networks applications) rows

devices_keep : (desk : DeskRow) (networks : List NetworkRow) (applications : List ApplicationRow) (before : List DeviceRow) (d : Data) (r : DeviceRow) → DevicesKeep desk networks applications before
    → device_in desk networks applications before d ≡ Ok r → DevicesKeep desk networks applications (before ++ r ∷ [])
devices_keep desk networks applications before d r kept h =
    let facts = device_facts desk networks applications before d r h in (
      distinct_row eqb [] (λ (x : DeviceRow). x.dev_eui.0) before r kept.0 refl facts.0.0,
      All-push (λ (x : DeviceRow). IsTrue (has_eui x.join_eui desk.join_euis)) before r kept.1 facts.0.1,
      All-push (Belongs desk.net_id networks applications) before r kept.2 facts.1,
    )

-- the desk

abbrev DeskKeeps : List Eui → Type 0
DeskKeeps euis = (1 ≤ length euis) × (length euis ≤ 16) × IsDistinct eqb (own euis)

un_element : {A : Type 0} (m : Result A (ℕ × Flaw)) (a : A) → in_element m ≡ Ok a → m ≡ Ok a
un_element (Ok x) a h = ap Ok (ok_same x a h)
un_element (Err e) a h = never _ a h

some_of : (all ds : List Data) → some_euis all ≡ Some ds → (1 ≤ length ds) × (length ds ≤ 16)
some_of all ds h =
    let test = held (nat_le 1 (length all) && nat_le (length all) 16) all ds h in
    let ends = and_parts (nat_le 1 (length all)) (nat_le (length all) 16) test.0 in
    rw (← test.1) (leb-true 1 (length all) ends.0, leb-true (length all) 16 ends.1)

array_ends : (d : Data) (ds : List Data) → eui_array d ≡ Some ds → (1 ≤ length ds) × (length ds ≤ 16)
unfolding eui_array
array_ends d ds h = option_and_then_some some_euis (array_of d) ds h (λ all is some. some_of all ds some)

join_euis_keep : (d : Data) (euis : List Eui) → join_euis_in d ≡ Ok euis → DeskKeeps euis
unfolding join_euis_in
join_euis_keep d euis h =
    let found = reached (need key.JoinEuis eui_array d) _ euis h in
    let read = was_needed key.JoinEuis eui_array d found.0 found.1 in
    let ends = array_ends read.0 found.0 read.1 in
    let walked = un_element (all_after (numbered next_eui) [] found.0) euis found.2 in
    let long = walk_length next_eui [] found.0 euis walked in
    (omega (arith, ends.0, long), omega (arith, ends.1, long), walk_keeps (λ (xs : List Eui). IsDistinct eqb (own xs)) next_eui eui_keeps [] found.0 euis (distinct_none eqb) walked)

desk_keeps : (d : Data) (desk : DeskRow) → desk_in d ≡ Ok desk → DeskKeeps desk.join_euis
unfolding desk_in
desk_keeps d desk h =
    let net = reached (need key.NetId net_of d) _ desk h in
    let euis = reached (join_euis_in d) _ desk net.2 in
    let settings = reached (need key.DlSettings dl_settings_of d) _ desk euis.2 in
    let delay = reached (need key.RxDelay (number_of 0 15) d) _ desk settings.2 in
    let list = reached (or_else None key.CfList cf_list_of d) _ desk delay.2 in
    let lifetime = reached (or_else 31536000 key.LifetimeS (number_of 1 (2 ^ 32 - 1)) d) _ desk list.2 in
    let ask = reached (or_else 30 key.AskS (number_of 1 600) d) _ desk lifetime.2 in
    subst (λ (x : DeskRow). DeskKeeps x.join_euis) (ok_same _ desk ask.2) (join_euis_keep d euis.0 euis.1)

un_desk : (m : Result DeskRow Flaw) (desk : DeskRow) → in_desk m ≡ Ok desk → m ≡ Ok desk
un_desk (Ok x) desk h = ap Ok (ok_same x desk h)
un_desk (Err e) desk h = never _ desk h

desk_at_keeps : (found : Option Data) (desk : DeskRow) → desk_at found ≡ Ok desk → DeskKeeps desk.join_euis
desk_at_keeps None desk h = never _ desk h
desk_at_keeps (Some d) desk h = desk_keeps d desk (un_desk (desk_in d) desk (tested (is_some (as_table d)) _ (in_desk (desk_in d)) desk h))

-- all sections

abbrev Above : DeskRow → List NetworkRow → List AgreementRow → List JoinServerRow → Type 0
Above desk networks agreements join_servers =
    DeskKeeps desk.join_euis
    × ((length networks ≤ 32) × NetworksKeep desk.net_id networks)
    × ((length agreements ≤ 32) × AgreementsKeep networks agreements)
    × ((length join_servers ≤ 32) × IsDistinct eqb (servers desk.join_euis join_servers))

begun : {K : Type 0} (e : K → K → Bool) (xs : List K) → IsDistinct e xs → IsDistinct e (xs ++ [])
begun e xs h = subst (IsDistinct e) (sym (append-nil xs)) h

parties_keep : (desk : DeskRow) (networks : List NetworkRow) (agreements : List AgreementRow) (join_servers : List JoinServerRow) (doc : Members) (c : Config) → Above desk networks agreements join_servers
    → parties_in desk networks agreements join_servers doc ≡ Ok c → IsSound c
unfolding parties_in
parties_keep desk networks agreements join_servers doc c above h =
    let applications = reached (rows_in (codes "application") 32 (application_in desk.join_euis join_servers networks) doc) _ c h in
    let gateways = reached (rows_in (codes "gateway") 64 (gateway_in desk.join_euis join_servers applications.0) doc) _ c applications.2 in
    let devices = reached (rows_in (codes "device") 4096 (device_in desk networks applications.0) doc) _ c gateways.2 in
    let euis = desk.join_euis in
    let apps = section_keeps (ApplicationsKeep euis join_servers networks) (codes "application") 32 (application_in euis join_servers networks) doc applications.0
    (begun eqb (servers euis join_servers) above.3.1, begun bytes_eq (map (λ (r : NetworkRow). r.kek_label) networks) above.1.1.1, All-nil (λ (r : ApplicationRow). IsLabel r.kek_label))
    (applications_keep euis join_servers networks) applications.1 in
    let ways = section_keeps (λ rows. IsDistinct eqb (everyone euis join_servers applications.0 rows)) (codes "gateway") 64 (gateway_in euis join_servers applications.0) doc gateways.0
    (begun eqb (owners euis join_servers applications.0) apps.1.0)
    (gateways_keep euis join_servers applications.0) gateways.1 in
    let own_devices = section_keeps (DevicesKeep desk networks applications.0) (codes "device") 4096 (device_in desk networks applications.0) doc devices.0
    (distinct_none eqb, All-nil (λ (r : DeviceRow). IsTrue (has_eui r.join_eui euis)), All-nil (Belongs desk.net_id networks applications.0))
    (devices_keep desk networks applications.0) devices.1 in
    subst IsSound (ok_same _ c devices.2) (record {
      limits = record {
        some_euis = above.0.0;
        few_euis = above.0.1;
        networks = above.1.0;
        agreements = above.2.0;
        join_servers = above.3.0;
        applications = apps.0;
        gateways = ways.0;
        devices = own_devices.0;
      };
      labels = All-append IsLabel (map (λ (r : NetworkRow). r.kek_label) networks) (map (λ (r : ApplicationRow). r.kek_label) applications.0)
          (All-map IsLabel (λ (r : NetworkRow). r.kek_label) networks above.1.1.2) (All-map IsLabel (λ (r : ApplicationRow). r.kek_label) applications.0 apps.1.2);
      labels_differ = apps.1.1;
      parties_differ = ways.1;
      networks_differ = above.1.1.0;
      agreements_differ = above.2.1.0;
      agreements_known = above.2.1.1;
      devices_differ = own_devices.1.0;
      join_euis_known = own_devices.1.1;
      belong = own_devices.1.2;
    })

pub sound_tables_in : (doc : Members) (c : Config) → tables_in doc ≡ Ok c → IsSound c
unfolding tables_in
sound_tables_in doc c h =
    let desk = reached (desk_at (get_member (codes "desk") doc)) _ c h in
    let networks = reached (rows_in (codes "network") 32 (network_in desk.0.net_id) doc) _ c desk.2 in
    let agreements = reached (rows_in (codes "agreement") 32 (agreement_in networks.0) doc) _ c networks.2 in
    let join_servers = reached (rows_in (codes "join_server") 32 (join_server_in desk.0.join_euis) doc) _ c agreements.2 in
    let euis = desk.0.join_euis in
    let at_desk = desk_at_keeps (get_member (codes "desk") doc) desk.0 desk.1 in
    let nets = section_keeps (NetworksKeep desk.0.net_id) (codes "network") 32 (network_in desk.0.net_id) doc networks.0
    (distinct_one eqb desk.0.net_id, distinct_none bytes_eq, All-nil (λ (r : NetworkRow). IsLabel r.kek_label))
    (networks_keep desk.0.net_id) networks.1 in
    let agreed = section_keeps (AgreementsKeep networks.0) (codes "agreement") 32 (agreement_in networks.0) doc agreements.0
    (distinct_none eqb, All-nil (λ (r : AgreementRow). IsTrue (has_network r.net_id networks.0)))
    (agreements_keep networks.0) agreements.1 in
    let others = section_keeps (λ rows. IsDistinct eqb (servers euis rows)) (codes "join_server") 32 (join_server_in euis) doc join_servers.0
    (begun eqb (own euis) at_desk.2) (join_servers_keep euis) join_servers.1 in
    parties_keep desk.0 networks.0 agreements.0 join_servers.0 doc c (at_desk, nets, agreed, others) join_servers.2

sound_tables_at : (doc : Option Members) (c : Config) → tables_at doc ≡ Ok c → IsSound c
sound_tables_at None c h = never _ c h
sound_tables_at (Some doc) c h = sound_tables_in doc c h

refused_or : {A E : Type 0} (test : Bool) (e : E) (m : Result A E) (a : A) → (if test then Err e else m) ≡ Ok a → m ≡ Ok a
refused_or true e m a h = never e a h
refused_or false e m a h = h

pub sound_tables_of : (text : List ℕ) (c : Config) → tables_of text ≡ Ok c → IsSound c
unfolding tables_of
sound_tables_of text c h = sound_tables_at (document_of text) c (refused_or (nat_lt 4194304 (length text)) _ (tables_at (document_of text)) c h)
