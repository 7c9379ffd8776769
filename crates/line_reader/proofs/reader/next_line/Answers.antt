use Rattle.std.proofs.Common.{◌≡◌, ◌+◌, ◌≤◌, [], ◌++◌, length, take, Err, sym, ap, ◌∙◌, arith}
use Rattle.std.proofs.lemmas.List.{length-append, length-drop}
use Rattle.std.proofs.lemmas.Result.{err_from_is_err_and}
use Rattle.line_reader.specs.declared.fault.LineFault.TheVariants.{TooMuch}
use Rattle.line_reader.specs.Ahead.{budget}
use Rattle.line_reader.specs.Lines.{HasNoBreak}
use Rattle.line_reader.specs.Held.{IsLineEnd}
use Rattle.line_reader.proofs.Parts.{take_held}
use Rattle.line_reader.proofs.Breaks.{HasNoBreak-append}
use Rattle.line_reader.proofs.Hearings.{TakesCount_then, Consumes_kept, Consumes_all, hears_line, is_none, same_err, spends_rest, stops_behind, uses_line, uses_rest}
use Rattle.line_reader.proofs.reader.next_line.Goals as goal

pub returns-in_err-stock-clause-taken : goal.returns-in_err-stock-clause-taken
returns-in_err-stock-clause-taken g c = TakesCount_then _ _ _ _ _ _ c.pieces.invariant.taken c.stock.ensures.taken

pub returns-in_err-stock-clause-stops_behind : goal.returns-in_err-stock-clause-stops_behind
returns-in_err-stock-clause-stops_behind g c = λ much.
    let part = c.pieces.invariant.part in
    let fault = c.in_err-stock.field-0.0 in
    let told = err_from_is_err_and c.from_residual.result c.from_residual.ensures.1 in
    let is : c.from_residual.result ≡ Err fault = told.1 ∙ ap Err told.2 in
    let one = c.in_err-stock.ensures.one_more (same_err fault TooMuch (sym is ∙ much)) in
    stops_behind _ _ _ part.0 c.pieces.ahead.pending one.0 c.in_err-stock.ensures.none part.1 part.2 one.1

pub returns-then-is_empty-clause-taken : goal.returns-then-is_empty-clause-taken
returns-then-is_empty-clause-taken g c = TakesCount_then _ _ _ _ _ _ c.pieces.invariant.taken c.stock.ensures.taken

pub returns-in_err-hold-in-Some-clause-taken : goal.returns-in_err-hold-in-Some-clause-taken
returns-in_err-hold-in-Some-clause-taken g c = TakesCount_then _ _ _ _ _ _ c.pieces.invariant.taken c.stock.ensures.taken

pub returns-in_err-hold-in-None-clause-taken : goal.returns-in_err-hold-in-None-clause-taken
returns-in_err-hold-in-None-clause-taken g c = TakesCount_then _ _ _ _ _ _ c.pieces.invariant.taken c.stock.ensures.taken

pub returns-in-Some-clause-taken : goal.returns-in-Some-clause-taken
returns-in-Some-clause-taken g c = rw c.pass.ensures.taken (TakesCount_then _ _ _ _ _ _ c.pieces.invariant.taken c.stock.ensures.taken)

pub returns-then-is_empty-clause-used : goal.returns-then-is_empty-clause-used
returns-then-is_empty-clause-used g c =
    let part = c.pieces.invariant.part in
    let none : c.stock.new.ahead.pending ≡ [] = sym c.piece-piece.ensures ∙ is_none c.piece-piece.result.now (sym c.is_empty.ensures ∙ c.if-is_empty.true) in
    uses_rest _ _ c.stock.new.ahead.pending part.0 _ none (Consumes_kept _ _ _ part.0 part.1 c.in_ok-stock.ensures.coming) c.in_ok-stock.ensures.end part.2 (c.rest.ensures part.0 part.3)

pub returns-then-is_empty-clause-line : goal.returns-then-is_empty-clause-line
returns-then-is_empty-clause-line g c = hears_line _ _ _ (returns-then-is_empty-clause-used g c)

pub returns-then-is_empty-clause-spends : goal.returns-then-is_empty-clause-spends
returns-then-is_empty-clause-spends g c =
    let part = c.pieces.invariant.part in
    spends_rest c.rest.result part.0 _ _ (c.rest.ensures part.0 part.3) (omega (arith, part.4, c.in_ok-stock.ensures.budget))

pub returns-in-Some-clause-used : goal.returns-in-Some-clause-used
returns-in-Some-clause-used g c =
    let part = c.pieces.invariant.part in
    let there = c.stock.new.ahead.pending in
    let at = c.in-Some.count in
    let ends : IsLineEnd there at = rw (← c.piece-piece.ensures) c.in-Some.ensures.found in
    let now = Consumes_kept _ _ _ part.0 part.1 c.in_ok-stock.ensures.coming in
    let held : c.hold.new.text.items ≡ take 8193 (part.0 ++ take at there) = rw (← c.piece-piece.ensures) (take_held 8193 _ part.0 _ _ part.3 c.in_ok-hold-in-Some.ensures) in
    rw c.pass.ensures.pending (uses_line _ _ there part.0 _ at now part.2 ends (c.new.ensures ∙ held))

pub returns-in-Some-clause-line : goal.returns-in-Some-clause-line
returns-in-Some-clause-line g c = hears_line _ _ _ (returns-in-Some-clause-used g c)

pub pieces-preserved : goal.pieces-preserved
pieces-preserved g c =
    let part = c.pieces.invariant.part in
    let there = c.stock.new.ahead.pending in
    let now = Consumes_kept _ _ _ part.0 part.1 c.in_ok-stock.ensures.coming in
    let piece = c.piece-piece.result.now in
    let kept = Consumes_all _ _ part.0 there piece c.pass-in-None.new.self.pending c.piece-piece.ensures c.pass-in-None.ensures.pending now in
    let clear : HasNoBreak piece = c.in-None.ensures.none in
    let none : length c.pass-in-None.new.self.pending ≡ 0 = ap length c.pass-in-None.ensures.pending ∙ simp length-drop (omega (arith, ap length c.piece-piece.ensures)) in
    let spent : budget c.pass-in-None.new.self + length (part.0 ++ piece) ≤ budget c.args.ahead.now = omega (arith, part.4, none, c.pass-in-None.ensures.taken, c.pass-in-None.ensures.limit, c.in_ok-stock.ensures.budget, length-append part.0 piece, ap length c.piece-piece.ensures) in
    record {
      part = (part.0 ++ piece, kept, HasNoBreak-append part.0 piece part.2 clear, take_held 8193 _ part.0 piece _ part.3 c.in_ok-hold-in-None.ensures, spent);
      taken = rw c.pass-in-None.ensures.taken (TakesCount_then _ _ _ _ _ _ c.pieces.invariant.taken c.stock.ensures.taken);
      limit = c.pass-in-None.ensures.limit ∙ c.stock.ensures.limit ∙ c.pieces.invariant.limit;
      within = omega (arith, c.pass-in-None.ensures.taken, c.pass-in-None.ensures.limit, c.in_ok-stock.ensures.within);
      count = omega (arith, c.pieces.invariant.count, c.stock.ensures.count);
    }
