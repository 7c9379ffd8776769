use Rattle.std.proofs.Common.{◌≡◌, ◌<◌, ◌++◌, ◌∷◌, [], length, ◌∙◌, ap, arith, nat_cmp}
use Rattle.std.specs.BTreeMap.{is_at}
use Rattle.std.specs.Map.{lookup}
use Rattle.agreements.proofs.Indexes.{HasPlaces-push, IsIndex-push, counted_key}
use Rattle.agreements.proofs.Places.{push_length}
use Rattle.agreements.proofs.named_rows.NamedRows.push.Goals as goal

pub invariant_of-self-2 : goal.invariant_of-self-2
invariant_of-self-2 g c =
    let rows = c.self.inside.rows.items in
    let grown : c.push.new.self.items ≡ rows ++ c.args.row ∷ [] = c.in_ok-push.ensures.items ∙ ap (λ xs. xs ++ c.args.row ∷ []) c.reserve.ensures.items in
    let counted : c.len-at.result ≡ length rows = omega (arith, c.len-at.ensures) in
    rw grown (
      IsIndex-push g.R.Named.name c.self.inside.index c.insert.new.self rows c.args.row c.self.invariant.0 (rw c.self.view_is c.requires.new)
          (counted_key c.insert.new.self c.self.inside.index _ _ _ _ c.name-name.ensures counted c.in_ok-insert.ensures.updates.0),
      (let room : length rows < 4096 = rw c.self.view_is c.requires.room in rw push_length (omega (arith, room))),
      HasPlaces-push g.R.Named.name rows c.args.row c.self.invariant.2 (rw c.self.view_is c.requires.new),
    )

pub invariant_of-self : goal.invariant_of-self
invariant_of-self g c = rw c.reserve.ensures.items c.self.invariant

pub invariant_of-self-in_err-insert : goal.invariant_of-self-in_err-insert
invariant_of-self-in_err-insert g c =
    rw c.reserve.ensures.items (
      λ key. ap (lookup (is_at (nat_cmp key))) c.in_err-insert.ensures.err ∙ c.self.invariant.0 key,
      c.self.invariant.1,
      c.self.invariant.2,
    )
