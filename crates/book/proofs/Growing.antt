-- A history with one entry more.
use Rattle.std.proofs.Common.{◌≡◌, ℕ, List, [], ◌∷◌, ◌++◌, Option, Some, None, refl, sym, ap, subst, ◌∙◌}
use Rattle.std.specs.Prelude.{IsTrue, option_map}
use Rattle.std.proofs.lemmas.Option.{same_Some, none-some}
use Rattle.agreements.specs.Walk.{Config}
use Rattle.disk_model.specs.Disk.{WhereTold}
use Rattle.entries.specs.Entries.{decode_of}
use Rattle.entries.specs.declared.entry.Entry.{Entry}
use Rattle.entry_codec.specs.Empty.{empty}
use Rattle.entry_codec.specs.Fits.{fits}
use Rattle.entry_codec.specs.Machine.{Machine, after}
use Rattle.entry_codec.specs.Replay.{AllFit, replay}
use Rattle.keepers.specs.Keeper.{Image}
use Rattle.roam_core.specs.Desk.{Desk, desk_after, empty_desk}
use Rattle.roam_core.specs.Legal.{desk_from}
use Rattle.book.specs.Histories.{IsHistory, entries_of, in_front}

-- ---- lists of entries

spelled_at : (o : Option Entry) (rest longer : Option (List Entry)) (es : List Entry) (e : Entry) → in_front o rest ≡ Some es → ((tail : List Entry) → rest ≡ Some tail → longer ≡ Some (tail ++ e ∷ [])) → in_front o longer ≡ Some (es ++ e ∷ [])
spelled_at None rest longer es e is more = absurd (none-some es is)
spelled_at (Some y) None longer es e is more = absurd (none-some es is)
spelled_at (Some y) (Some tail) longer es e is more = ap (in_front (Some y)) (more tail refl) ∙ ap (λ (l : List Entry). Some (l ++ e ∷ [])) (same_Some (y ∷ tail) es is)

pub spelled_more : (rs : List (List ℕ)) (es : List Entry) (r : List ℕ) (e : Entry) → entries_of rs ≡ Some es → decode_of r ≡ Some e → entries_of (rs ++ r ∷ []) ≡ Some (es ++ e ∷ [])
spelled_more [] es r e is one = ap (λ (o : Option Entry). in_front o (Some [])) one ∙ ap (λ (l : List Entry). Some (l ++ e ∷ [])) (same_Some [] es is)
spelled_more (x ∷ rs) es r e is one = spelled_at (decode_of x) (entries_of rs) (entries_of (rs ++ r ∷ [])) es e is (λ tail same. spelled_more rs tail r e same one)

pub desk_then : (s : Desk) (es more : List Entry) → desk_from s (es ++ more) ≡ desk_from (desk_from s es) more
desk_then s [] more = refl
desk_then s (e ∷ es) more = desk_then (desk_after s e) es more

pub desk_now : (s : Desk) (es : List Entry) → (desk_from s es).now ≡ replay s.now es
desk_now s [] = refl
desk_now s (e ∷ es) = desk_now (desk_after s e) es

pub fit_then : (m : Machine) (es more : List Entry) → AllFit m es → AllFit (replay m es) more → AllFit m (es ++ more)
fit_then m [] more fit then = then
fit_then m (e ∷ es) more fit then = (fit.0, fit_then (after m e) es more fit.1 then)

-- ---- histories

pub history_more : (c : Config) (rs : List (List ℕ)) (s : Desk) (r : List ℕ) (e : Entry) → IsHistory c rs s → decode_of r ≡ Some e → IsTrue (fits s.now e) → IsHistory c (rs ++ r ∷ []) (desk_after s e)
history_more c rs s r e h one fit = record {
  entries = h.entries ++ e ∷ [];
  spelled = spelled_more rs h.entries r e h.spelled one;
  fit = fit_then (empty c) h.entries (e ∷ []) h.fit (subst (λ (m : Machine). IsTrue (fits m e)) (ap (λ (d : Desk). d.now) (sym h.leads) ∙ desk_now (empty_desk c) h.entries) fit, tt);
  leads = desk_then (empty_desk c) h.entries (e ∷ []) ∙ ap (λ (d : Desk). desk_after d e) h.leads;
}

-- of records that are told
pub told_more : (c : Config) (old new : Image) (s : Desk) (r : List ℕ) (e : Entry) → new ≡ option_map (λ (rs : List (List ℕ)). rs ++ r ∷ []) old → decode_of r ≡ Some e → IsTrue (fits s.now e)
    → WhereTold old (λ rs. IsHistory c rs s) → WhereTold new (λ rs. IsHistory c rs (desk_after s e))
told_more c None new s r e added one fit kept = λ rs told. absurd (none-some rs (sym added ∙ told))
told_more c (Some old) new s r e added one fit kept = λ rs told.
    subst (λ (l : List (List ℕ)). IsHistory c l (desk_after s e)) (same_Some (old ++ r ∷ []) rs (sym added ∙ told)) (history_more c old s r e (kept old refl) one fit)
