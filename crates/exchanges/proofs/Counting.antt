-- An uplink's full counter and channel are the least that fit.
use Rattle.std.proofs.Common.{◌≡◌, ℕ, ◌-◌, ◌%◌, ◌<◌, ◌≤◌, ◌^◌, Bool, true, false, List, Option, Some, None, option_map, refl, sym, ap, ◌∙◌, subst, arith, eqb-true, eq-eqb}
use Rattle.std.specs.Prelude.{◌&&◌, IfNone, IfSome}
use Rattle.std.specs.Str.{bytes_eq}
use Rattle.std.proofs.lemmas.Slice.Eq.{bytes_eq-Decides}
use Rattle.wire_ids.specs.declared.keys.SessionKeys.{SessionKeys}
use Rattle.contexts.specs.declared.context.Context.{Context}
use Rattle.data_frames.specs.Counts.{IsAbove, IsFullCount, MayCount}
use Rattle.data_frames.specs.DataForms.{fields_of}
use Rattle.data_frames.specs.Mics.{Fits, IsChannel, up_mic, without_mic}
use Rattle.data_frames.specs.declared.uplink.DataUp.{DataUp}
use Rattle.data_frames.proofs.Halves.{enabled_low}
use Rattle.exchanges.specs.Frames.{HasFields, acks, wire_of}
use Rattle.exchanges.specs.Valid.{IsValid, ValidUplinks, channel_of, conf_of, counted, first_count, fits_on, full_count, has_mic, sends, up_valid, valid_at}
use Rattle.exchanges.specs.declared.valid.Count.{Count}
use Rattle.exchanges.proofs.Least.{IsLeast, found, least_is, none_is}
use Rattle.exchanges.proofs.Reading.{data_read}

-- ---- the counter

first_above : (last : Option ℕ) (n : ℕ) → IsAbove last n → first_count last ≤ n
first_above None n h = omega arith
first_above (Some last) n h = omega (arith, h)

above_first : (last : Option ℕ) (n : ℕ) → first_count last ≤ n → IsAbove last n
above_first None n h = tt
above_first (Some last) n h = omega (arith, h)

may_count : (last : Option ℕ) (wire n : ℕ) → first_count last ≤ n → sends wire n ≡ true → MayCount last wire n
may_count last wire n low is = (eqb-true (n % 2 ^ 16) wire is, above_first last n low)

count_least : (last : Option ℕ) (wire n : ℕ) → IsFullCount last wire n → IsLeast (sends wire) (first_count last) n
count_least last wire n is = record {
  passes = eq-eqb (n % 2 ^ 16) wire is.may.0;
  low = first_above last n is.may.1;
  least = λ j low sent. is.least j (may_count last wire j low sent);
}

pub count_is : (last : Option ℕ) (wire n : ℕ) → IsFullCount last wire n → n < 2 ^ 32 → full_count last wire ≡ Some n
unfolding full_count
count_is last wire n is few =
    let first = first_above last n is.may.1 in
    least_is (sends wire) (2 ^ 32 - first_count last) (first_count last) n (count_least last wire n is) (omega (arith, first, few))

pub count_none : (last : Option ℕ) (wire : ℕ) → ((n : ℕ) → MayCount last wire n → 2 ^ 32 ≤ n) → full_count last wire ≡ None
unfolding full_count
count_none last wire none = none_is (sends wire) (2 ^ 32 - first_count last) (first_count last)
    (λ j low high sent. let most = none j (may_count last wire j low sent) in absurd (omega (arith, low, high, most)))

count_gives : (last : Option ℕ) (wire n : ℕ) → full_count last wire ≡ Some n → IsFullCount last wire n × (n < 2 ^ 32)
unfolding full_count
count_gives last wire n e =
    let f = found (sends wire) (2 ^ 32 - first_count last) (first_count last) n e in (
      record {
        may = may_count last wire n f.is.low f.is.passes;
        least = λ m may. f.is.least m (first_above last m may.1) (eq-eqb (m % 2 ^ 16) wire may.0);
      },
      omega (arith, f.is.low, f.high),
    )

-- what the code's counter gives
pub counter_is : (last : Option ℕ) (wire : ℕ) (o : Option ℕ) → ((n : ℕ) → o ≡ Some n → n < 2 ^ 32) → IfSome o (λ n. IsFullCount last wire n)
    → IfNone o ((n : ℕ) → MayCount last wire n → 2 ^ 32 ≤ n) → o ≡ full_count last wire
counter_is last wire None few some none = sym (count_none last wire none)
counter_is last wire (Some n) few some none = sym (count_is last wire n some (few n refl))

-- ---- the channel

and_both : (a b : Bool) → a ≡ true → b ≡ true → (a && b) ≡ true
and_both true true ea eb = refl
and_both true false ea eb = absurd cc
and_both false b ea eb = absurd cc

and_first : (a b : Bool) → (a && b) ≡ true → a ≡ true
and_first true b e = refl
and_first false b e = absurd cc

and_second : (a b : Bool) → (a && b) ≡ true → b ≡ true
and_second true b e = e
and_second false b e = absurd cc

abbrev Mic : Type 0
Mic = SessionKeys → DataUp → ℕ → ℕ → ℕ → ℕ → List ℕ

abbrev mic_on : Mic
mic_on keys u count conf rate channel = up_mic keys u.addr count conf rate channel (without_mic u.whole.now)

same_mic : (keys : SessionKeys) (u : DataUp) (count conf rate channel : ℕ) → HasFields u.whole.now (fields_of u)
    → has_mic keys u.whole.now count conf rate channel ≡ bytes_eq u.mic (mic_on keys u count conf rate channel)
same_mic keys u count conf rate channel is = rw (is.mic, is.addr) refl

passes_on : (keys : SessionKeys) (u : DataUp) (count conf rate channels channel : ℕ) → HasFields u.whole.now (fields_of u)
    → Fits keys u count conf rate channels channel → fits_on keys u.whole.now count conf rate channels channel ≡ true
passes_on keys u count conf rate channels channel is fit =
    and_both _ _ (eq-eqb _ 1 fit.0) (same_mic keys u count conf rate channel is ∙ (bytes_eq-Decides u.mic (mic_on keys u count conf rate channel)).1 fit.1)

fits_from : (keys : SessionKeys) (u : DataUp) (count conf rate channels channel : ℕ) → HasFields u.whole.now (fields_of u)
    → fits_on keys u.whole.now count conf rate channels channel ≡ true → Fits keys u count conf rate channels channel
fits_from keys u count conf rate channels channel is e = (
  eqb-true _ 1 (and_first _ _ e),
  (bytes_eq-Decides u.mic (mic_on keys u count conf rate channel)).0 (sym (same_mic keys u count conf rate channel is) ∙ and_second _ _ e),
)

pub channel_is : (keys : SessionKeys) (u : DataUp) (count conf rate channels channel : ℕ) → channels < 256 → HasFields u.whole.now (fields_of u)
    → IsChannel keys u count conf rate channels channel → channel_of keys u.whole.now count conf rate channels ≡ Some channel
unfolding channel_of
channel_is keys u count conf rate channels channel few fields is =
    least_is (fits_on keys u.whole.now count conf rate channels) 8 0 channel (record {
      passes = passes_on keys u count conf rate channels channel fields is.fits;
      low = omega arith;
      least = λ j low fit. is.least j (fits_from keys u count conf rate channels j fields fit);
    }) (enabled_low channels channel few is.fits.0)

pub channel_none : (keys : SessionKeys) (u : DataUp) (count conf rate channels : ℕ) → HasFields u.whole.now (fields_of u)
    → ((k : ℕ) → ¬ Fits keys u count conf rate channels k) → channel_of keys u.whole.now count conf rate channels ≡ None
unfolding channel_of
channel_none keys u count conf rate channels fields none =
    none_is (fits_on keys u.whole.now count conf rate channels) 8 0 (λ j low high fit. none j (fits_from keys u count conf rate channels j fields fit))

channel_gives : (keys : SessionKeys) (u : DataUp) (count conf rate channels channel : ℕ) → channels < 256 → HasFields u.whole.now (fields_of u)
    → channel_of keys u.whole.now count conf rate channels ≡ Some channel → IsChannel keys u count conf rate channels channel
unfolding channel_of
channel_gives keys u count conf rate channels channel few fields e =
    let f = found (fits_on keys u.whole.now count conf rate channels) 8 0 channel e in
    record {
      fits = fits_from keys u count conf rate channels channel fields f.is.passes;
      least = λ k fit. f.is.least k (omega arith) (passes_on keys u count conf rate channels k fields fit);
    }

-- what the code's channel gives
pub channel_of_is : (keys : SessionKeys) (u : DataUp) (count conf rate channels : ℕ) (o : Option ℕ) → channels < 256 → HasFields u.whole.now (fields_of u)
    → IfSome o (λ k. IsChannel keys u count conf rate channels k) → IfNone o ((k : ℕ) → ¬ Fits keys u count conf rate channels k)
    → o ≡ channel_of keys u.whole.now count conf rate channels
channel_of_is keys u count conf rate channels None few fields some none = sym (channel_none keys u count conf rate channels fields none)
channel_of_is keys u count conf rate channels (Some k) few fields some none = sym (channel_is keys u count conf rate channels k few fields some)

-- ---- both

module _ (keys : SessionKeys) (c : Context) (u : DataUp) (rate : ℕ) (few : c.channels < 256) (fields : HasFields u.whole.now (fields_of u)) where
  conf_same : conf_of (acks u.whole.now) c.conf ≡ conf_of u.ack c.conf
  conf_same = ap (λ (b : Bool). conf_of b c.conf) fields.ack

  wire_same : full_count c.last (wire_of u.whole.now) ≡ full_count c.last u.wire
  wire_same = ap (full_count c.last) fields.wire

  valid_by : (v : Count) → IsValid keys c u rate v → up_valid keys c u.whole.now rate ≡ Some v
  unfolding up_valid
  valid_by v is =
      ap (valid_at keys c u.whole.now rate) (wire_same ∙ count_is c.last u.wire v.count is.count is.few)
      ∙ ap (λ (conf : ℕ). option_map (counted v.count) (channel_of keys u.whole.now v.count conf rate c.channels)) conf_same
      ∙ ap (option_map (counted v.count)) (channel_is keys u v.count (conf_of u.ack c.conf) rate c.channels v.channel few fields is.channel)

  from_channel : (n : ℕ) (v : Count) (o : Option ℕ) → full_count c.last u.wire ≡ Some n → channel_of keys u.whole.now n (conf_of u.ack c.conf) rate c.channels ≡ o
      → option_map (counted n) o ≡ Some v → IsValid keys c u rate v
  from_channel n v None there is e = absurd cc
  from_channel n v (Some k) there is e =
      let same : counted n k ≡ v = cc in
      let both = count_gives c.last u.wire n there in
      subst (IsValid keys c u rate) same (record {
        count = both.0;
        few = both.1;
        channel = channel_gives keys u n (conf_of u.ack c.conf) rate c.channels k few fields is;
      })

  from_count : (v : Count) (o : Option ℕ) → full_count c.last u.wire ≡ o → valid_at keys c u.whole.now rate o ≡ Some v → IsValid keys c u rate v
  from_count v None is e = absurd cc
  from_count v (Some n) is e =
      from_channel n v (channel_of keys u.whole.now n (conf_of u.ack c.conf) rate c.channels) is refl
      (sym (ap (λ (conf : ℕ). option_map (counted n) (channel_of keys u.whole.now n conf rate c.channels)) conf_same) ∙ e)

  valid_is : (v : Count) → up_valid keys c u.whole.now rate ≡ Some v → IsValid keys c u rate v
  unfolding up_valid
  valid_is v e = from_count v (full_count c.last u.wire) refl (sym (ap (valid_at keys c u.whole.now rate) wire_same) ∙ e)

pub valid_uplinks : ValidUplinks
valid_uplinks keys c u rate few form =
    let fields = data_read u.whole.now (fields_of u) form in
    record { is = valid_is keys c u rate few fields; all = valid_by keys c u rate few fields }

-- ---- a counter is above the last one

counted_from : (keys : SessionKeys) (c : Context) (frame : List ℕ) (rate n : ℕ) (v : Count) (o : Option ℕ) → option_map (counted n) o ≡ Some v → v.count ≡ n
counted_from keys c frame rate n v None e = absurd cc
counted_from keys c frame rate n v (Some k) e = let same : counted n k ≡ v = cc in ap (λ (x : Count). x.count) (sym same)

above_from : (keys : SessionKeys) (c : Context) (frame : List ℕ) (rate : ℕ) (v : Count) (o : Option ℕ) → full_count c.last (wire_of frame) ≡ o → valid_at keys c frame rate o ≡ Some v → IsAbove c.last v.count
above_from keys c frame rate v None is e = absurd cc
above_from keys c frame rate v (Some n) is e =
    let same = counted_from keys c frame rate n v (channel_of keys frame n (conf_of (acks frame) c.conf) rate c.channels) e in
    subst (IsAbove c.last) (sym same) (count_gives c.last (wire_of frame) n is).0.may.1

pub counts_above : (keys : SessionKeys) (c : Context) (frame : List ℕ) (rate : ℕ) (v : Count) → up_valid keys c frame rate ≡ Some v → IsAbove c.last v.count
unfolding up_valid
counts_above keys c frame rate v e = above_from keys c frame rate v (full_count c.last (wire_of frame)) refl e
