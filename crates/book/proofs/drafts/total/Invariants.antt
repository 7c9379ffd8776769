use Rattle.std.proofs.Common.{◌≡◌, ◌+◌, drop, map}
use Rattle.book.specs.Pages.{bytes_in, entry_in}
use Rattle.book.proofs.drafts.total.Given as goal

abbrev pub invariant-loop-draft : goal.invariant-loop-draft
invariant-loop-draft l = l.total + bytes_in (map entry_in (drop l.draft-index l.drafts)) ≡ bytes_in (map entry_in l.drafts)
