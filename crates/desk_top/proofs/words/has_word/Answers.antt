use Rattle.std.proofs.Common.{Some, option_map, string_bytes, sym, ◌∙◌, ap}
use Rattle.std.proofs.lemmas.Bool.{eqb-true, eq-eqb}
use Rattle.std.proofs.lemmas.Slice.Eq.{slice_eq-Decides}
use Rattle.std.proofs.lemmas.Option.{slice_get_past, slice_get-get_or}
use Rattle.desk_top.proofs.words.has_word.Goals as goal

pub returns-in-Some : goal.returns-in-Some
returns-in-Some c =
    let d = c.in-Some.ensures.lookup in
    let words = c.args.words.now in
    let at = c.args.at in
    let here = slice_get-get_or words at c.in-Some.found.now d.3.0 ∙ ap Some (sym d.1) in
    let there = ap (option_map string_bytes) here in
    let decides = slice_eq-Decides (λ a b. (eqb-true a b, eq-eqb a b)) c.as_str.result.now c.args.word.now c.eq.result c.eq.ensures in
    let value = c.as_str.ensures.value in
    (λ h. there ∙ ap Some (sym value ∙ decides.0 h), λ h. let k = sym there ∙ h in decides.1 cc)

pub returns-in-None : goal.returns-in-None
returns-in-None c =
    let past = slice_get_past c.args.words.now c.args.at c.in-None.ensures.lookup.3 in
    (λ h. cc, λ h. let k = sym (ap (option_map string_bytes) past) ∙ h in cc)
