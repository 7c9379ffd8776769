-- A keeper over a journal has the laws of a keeper.
use Rattle.std.specs.Prelude.{◌≡◌, ◌<◌, ◌≤◌, ◌^◌, ◌↔◌, ◌++◌, ◌∷◌, [], ℕ, List, Option, Some, length, take}
use Rattle.std.proofs.Common.{sym, ◌∙◌, ap, subst, inl, inr, arith}
use Rattle.wire_ids.specs.Causes.{Rose}
use Rattle.disk_model.specs.Disk.{WhereTold}
use Rattle.disk_journal.specs.Format.{journal_of, kept}
use Rattle.disk_journal.specs.Journal.{place}
use Rattle.disk_journal.proofs.Results.{mapped}
use Rattle.disk_journal.proofs.Records.{journal_shut}
use Rattle.disk_journal.proofs.Put.{may_have_journal}
use Rattle.keepers.specs.Keeper.{Image, HoldsOnly, OneMoreOrNot}
use Rattle.keepers.specs.JournalKeepers.{end_of, keeper_changed, keeper_count, keeper_disk, keeper_end, keeper_faults, keeper_records, IsPastLimit, Journals, KeeperDoubts, KeeperReads, KeeperRests}
use Rattle.keepers.specs.declared.journal_keeper.JournalKeeper.{JournalKeeper}

module _ {D : Type 0} (seen : D → Option (List ℕ)) (images : D → List ℕ → Type 0) (k : JournalKeeper D) where
  pub rest_reads : KeeperRests seen images k → KeeperReads seen k
  rest_reads rests = (rests.0, ((λ c told. (rests.1.0 c told).has), rests.1.1))

  pub doubt_reads : (tried : List ℕ) → KeeperDoubts seen images k tried → KeeperReads seen k
  doubt_reads tried doubts = (doubts.0, ((λ c told. (doubts.2.0 c told).has), doubts.2.1))

  pub count_is : KeeperReads seen k → WhereTold (keeper_records seen k) (λ r. keeper_count k ≡ length r)
  count_is reads r is =
      let from = mapped (kept (keeper_end k)) (seen (keeper_disk k)) r is in
      (reads.1.0 from.0 from.1).counts ∙ ap (λ (l : List (List ℕ)). length l) from.2

  pub end_is : KeeperReads seen k → WhereTold (keeper_records seen k) (λ r. keeper_end k ≡ end_of r)
  end_is reads r is =
      let from = mapped (kept (keeper_end k)) (seen (keeper_disk k)) r is in
      let has = reads.1.0 from.0 from.1 in
      has.ends ∙ (λ i. place (has.counts i) (kept (keeper_end k) from.0)) ∙ ap end_of from.2

  pub past_limit : (n bytes : ℕ) → KeeperReads seen k → WhereTold (keeper_records seen k) (λ r. IsPastLimit (keeper_end k) n bytes ↔ IsPastLimit (end_of r) n bytes)
  past_limit n bytes reads r is =
      let same = end_is reads r is in
      ((λ past. subst (λ (e : ℕ). IsPastLimit e n bytes) same past), (λ past. subst (λ (e : ℕ). IsPastLimit e n bytes) (sym same) past))

  -- the journal of the one image is what the keeper has
  pub rest_journal : KeeperRests seen images k → (r : List (List ℕ)) → keeper_records seen k ≡ Some r → (c : List ℕ) → images (keeper_disk k) c → journal_of c ≡ Some r
  rest_journal rests r is c image =
      let from = mapped (kept (keeper_end k)) (seen (keeper_disk k)) r is in
      let at = rests.1.0 from.0 from.1 in
      ap journal_of (at.durable c image) ∙ journal_shut at.has.front from.0 at.shut ∙ ap Some from.2

  pub rest_only : ((c : List ℕ) → seen (keeper_disk k) ≡ Some c → images (keeper_disk k) c) → KeeperRests seen images k → WhereTold (keeper_records seen k) (HoldsOnly (Journals (images (keeper_disk k))))
  rest_only shown rests r is =
      let from = mapped (kept (keeper_end k)) (seen (keeper_disk k)) r is in
      record {
        one = (from.0, shown from.0 from.1, rest_journal rests r is from.0 (shown from.0 from.1));
        each = λ image holds. sym holds.2 ∙ rest_journal rests r is holds.0 holds.1;
      }

  pub doubt_journals : (tried : List ℕ) → KeeperDoubts seen images k tried → WhereTold (keeper_records seen k) (λ r. (image : Image) → Journals (images (keeper_disk k)) image → OneMoreOrNot r tried image)
  doubt_journals tried doubts r is image holds =
      let from = mapped (kept (keeper_end k)) (seen (keeper_disk k)) r is in
      let at = doubts.2.0 from.0 from.1 in
      let short : length tried < 2 ^ 32 = omega (arith, doubts.1) in
      one_more (kept (keeper_end k) from.0) r (journal_of holds.0) image from.2 holds.2 (may_have_journal (take (keeper_end k) from.0) (kept (keeper_end k) from.0) tried holds.0 at.has.front short (at.each holds.0 holds.1))
    where
      one_more : (records r : List (List ℕ)) (found image : Image) → records ≡ r → found ≡ image → OneMoreOrNot records tried found → OneMoreOrNot r tried image
      one_more records r found image same is (inl before) = inl (sym is ∙ before ∙ ap Some same)
      one_more records r found image same is (inr with_it) = inr (sym is ∙ with_it ∙ ap (λ (l : List (List ℕ)). Some (l ++ tried ∷ [])) same)

  -- where the disk tells, the count of faults is the disk's
  pub told_faults : (faults : D → ℕ) → KeeperReads seen k → (r : List (List ℕ)) → keeper_records seen k ≡ Some r → keeper_faults faults k ≡ faults (keeper_disk k)
  told_faults faults reads r is = omega (arith, reads.0 r is)

-- between two moments of a keeper that finds nothing changed its disk's count of faults goes as its own
module _ {D : Type 0} (faults : D → ℕ) (old new : JournalKeeper D) where
  pub disk_later : keeper_changed new ≡ keeper_changed old → keeper_faults faults old ≤ keeper_faults faults new → faults (keeper_disk old) ≤ faults (keeper_disk new)
  disk_later same later = omega (arith, same, later)

  pub disk_rose_only : keeper_changed old ≡ 0 → keeper_changed new ≡ keeper_changed old → Rose (keeper_faults faults old) (keeper_faults faults new) → Rose (faults (keeper_disk old)) (faults (keeper_disk new))
  disk_rose_only none same rose = omega (arith, none, same, rose)
