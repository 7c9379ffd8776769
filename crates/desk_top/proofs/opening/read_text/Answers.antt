use Rattle.std.proofs.Common.{◌++◌, arith}
use Rattle.std.proofs.lemmas.List.{length-append}
use Rattle.line_reader.proofs.Hearings.{Consumes_then}
use Rattle.desk_top.proofs.opening.read_text.Goals as goal

pub returns-in_err-count-clause-taken : goal.returns-in_err-count-clause-taken
returns-in_err-count-clause-taken g c =
    let piece = c.read_piece.ensures.piece in
    (c.pieces.text.items ++ piece.0, Consumes_then _ _ _ c.pieces.text.items piece.0 c.pieces.invariant.part piece.1, omega (arith, piece.2, length-append c.pieces.text.items piece.0))
