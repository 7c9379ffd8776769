use Rattle.std.proofs.Common.{◌∙◌, ap, sym}
use Rattle.std.proofs.lemmas.Result.{IfOk-weaker}
use Rattle.serde_json.specs.Read.{read}
use Rattle.backend_json.proofs.Bodies.{json_of_text, json_of_none}
use Rattle.backend_json.proofs.body.json_value.Goals as goal

pub returns-in-Ok : goal.returns-in-Ok
returns-in-Ok c =
    let text = c.in-Ok.ensures.cases in
    IfOk-weaker c.value_in.result _ _ (λ found is. is ∙ ap read text.0 ∙ sym (json_of_text _ text.1)) c.value_in.ensures

pub returns-in-Err : goal.returns-in-Err
returns-in-Err c = sym (json_of_none _ c.in-Err.ensures.cases.0)
