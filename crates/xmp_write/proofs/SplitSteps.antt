-- The length of a front as it grows by a property, and the split that is found.
use Rattle.std.proofs.Common.{◌≡◌, ℕ, ◌+◌, ◌-◌, ◌^◌, ◌<◌, ◌≤◌, Bool, true, false, List, [], ◌∷◌, ◌++◌, length, take, drop, get_or, fold, min, Some, refl, sym, ap, subst, ◌∙◌, ⊎_elim, length-append, arith}
use Rattle.std.specs.Prelude.{codes, slice_range, IsTrue, ◌↔◌}
use Rattle.std.specs.List.{flat_map}
use Rattle.std.proofs.Math.Seq.{take-add}
use Rattle.std.proofs.lemmas.Bool.{cases_lt, both_ways}
use Rattle.std.proofs.lemmas.Grind.{flat_map-append}
use Rattle.std.proofs.lemmas.List.{append-nil, take_more}
use Rattle.std.proofs.lemmas.List.Sums.{fold-append, AllPass-from_list_all}
use Rattle.xmp_values.specs.Digits.{AreCapitals, is_capital}
use Rattle.xmp_values.specs.declared.hints.Hint.{Hint}
use Rattle.xmp_tree.specs.declared.nested.Member.{Member}
use Rattle.xmp_tree.specs.Parts.{Parts}
use Rattle.xmp_tree.specs.Wf.{note_name}
use Rattle.xmp_write.specs.Prefixes.{with_use, prefixes}
use Rattle.xmp_write.specs.Written.{member_spaces, note_members}
use Rattle.xmp_write.specs.Text.{attribute_text, declared_text, lines_text, member_text, written_text}
use Rattle.xmp_write.specs.Splits.{rest_form, text_len, Fits, IsSplit, Tells, front_spaces, zeros, base_len, front_len, IsFront, FrontStops, Stops}
use Rattle.xmp_write.specs.declared.forms.Form.{Form}
use Rattle.xmp_write.specs.declared.splits.Front.{Front}
use Rattle.xmp_write.specs.declared.splits.SplitStop.{SplitStop}
use Rattle.xmp_write.specs.declared.splits.SplitStop.TheVariants.{TooLong, Memory}
use Rattle.xmp_write.proofs.TextParts.{lines_text-append, declared_text-append}
use Rattle.xmp_write.proofs.FrontLengths.{whole, front_len_is, front_grows}

-- three lengths, each after the one before
pub three_lengths : (a b c x y z : ℕ) → x ≡ min (164 + a) (2 ^ 64 - 1) → y ≡ min (x + b) (2 ^ 64 - 1) → z ≡ min (y + c) (2 ^ 64 - 1) → z ≡ min (164 + a + b + c) (2 ^ 64 - 1)
three_lengths a b c x y z one two three = omega arith

pub base_is : (ps : List Hint) (t : Parts) → base_len ps t ≡ 164 + length (attribute_text (codes "rdf:about") t.about) + length (lines_text ps (note_members (Some zeros)))
unfolding base_len
base_is ps t = refl

module _ (props : List Member) where
  -- the namespaces of a front with one property more
  pub spaces_step : (k : ℕ) (m : Member) → k < length props → m ≡ get_or props k m → fold with_use (front_spaces props k) (member_spaces m) ≡ front_spaces props (k + 1)
  spaces_step k m within here =
      let more = take_more props k m within ∙ ap (λ x. take k props ++ x ∷ []) (sym here) in
      sym (ap (λ ms. fold with_use [] (note_name.space ∷ flat_map member_spaces ms)) more
      ∙ ap (λ rest. fold with_use [] (note_name.space ∷ rest)) (flat_map-append member_spaces (take k props) (m ∷ []) ∙ ap (λ rest. flat_map member_spaces (take k props) ++ rest) (append-nil (member_spaces m)))
      ∙ fold-append with_use [] (note_name.space ∷ flat_map member_spaces (take k props)) (member_spaces m))

module _ (ps : List Hint) (t : Parts) where
  pub len_step : (k : ℕ) (m : Member) (used to : ℕ) → k < length t.props → m ≡ get_or t.props k m → used ≡ length (front_spaces t.props k) → to ≡ length (front_spaces t.props (k + 1)) → used ≤ to
      → front_len ps t (k + 1) ≡ front_len ps t k + (length (member_text ps m) + 1 + length (declared_text (slice_range ps used to)))
  unfolding front_len
  len_step k m used to within here before after order =
      let more = take_more t.props k m within ∙ ap (λ x. take k t.props ++ x ∷ []) (sym here) in
      let lines = ap length (ap (lines_text ps) more ∙ lines_text-append ps (take k t.props) (m ∷ [])) in
      let parts = length-append (lines_text ps (take k t.props)) (member_text ps m ++ codes "\n") in
      let line = length-append (member_text ps m) (codes "\n") in
      let wide : used + (to - used) ≡ to = omega arith in
      let split = ap length (ap (λ n. declared_text (take n ps)) (sym wide) ∙ ap declared_text (take-add used (to - used) ps) ∙ declared_text-append (take used ps) (take (to - used) (drop used ps))) in
      let sums = length-append (declared_text (take used ps)) (declared_text (take (to - used) (drop used ps))) in
      let old = ap (λ n. length (declared_text (take n ps))) before in
      let new = ap (λ n. length (declared_text (take n ps))) after in
      omega (arith, lines, parts, line, split, sums, old, new)

  pub more_is : (k : ℕ) (m : Member) (used to len next : ℕ) → k < length t.props → m ≡ get_or t.props k m → used ≡ length (front_spaces t.props k) → to ≡ length (front_spaces t.props (k + 1)) → used ≤ to
      → len ≡ min (front_len ps t k) (2 ^ 64 - 1) → next ≡ min (len + (length (member_text ps m) + 1 + length (declared_text (slice_range ps used to)))) (2 ^ 64 - 1)
      → next ≡ min (front_len ps t (k + 1)) (2 ^ 64 - 1)
  more_is k m used to len next within here before after order old new =
      let step = len_step k m used to within here before after order in
      omega (arith, step)

-- 32 zeros are digits
zeros_capitals : AreCapitals zeros
unfolding is_capital
zeros_capitals = (refl, AllPass-from_list_all is_capital zeros refl)

module _ (t : Parts) (hints : List Hint) (room : ℕ) where
  -- what fits with the prefixes of the whole
  fits_whole : (k : ℕ) → 73 + front_len (whole t hints) t k ≤ room → Fits t hints room k
  fits_whole k fits digits capitals = subst (λ n. 73 + n ≤ room) (sym (front_len_is t hints digits k capitals)) fits

  whole_fits : (k : ℕ) → Fits t hints room k → 73 + front_len (whole t hints) t k ≤ room
  whole_fits k fits = subst (λ n. 73 + n ≤ room) (front_len_is t hints zeros k zeros_capitals) (fits zeros zeros_capitals)

  -- the last front that fits is the split
  pub front_split : (front : Front) → IsFront (whole t hints) t room front → IsSplit t hints room front.count
  front_split front found = record {
    within = found.within;
    fits = fits_whole front.count found.fits;
    largest = λ m within fits. ⊎_elim
        (λ later.
        let next : front.count + 1 ≤ m = omega (arith, later) in
        let past = found.last (omega (arith, within, later)) in
        let grows = front_grows hints (whole t hints) t (front.count + 1) m next in
        absurd (omega (arith, past, grows, whole_fits m fits)))
        (λ done. done)
        (cases_lt front.count m);
  }

  pub never_fits : room < 73 + front_len (whole t hints) t 0 → (k : ℕ) → k ≤ length t.props → Fits t hints room k → ⊥
  never_fits past k within fits = omega (arith, past, front_grows hints (whole t hints) t 0 k (omega arith), whole_fits k fits)

-- whether a length fits, where it is counted up to the greatest u64
module _ (sum len room : ℕ) (b : Bool) (counted : len ≡ min sum (2 ^ 64 - 1)) (low : room < 2 ^ 64 - 1) (tells : IsTrue b ↔ (73 + len ≤ room)) where
  pub fits_not : b ≡ false → room < 73 + sum
  fits_not is = ⊎_elim (λ past. omega (arith, past, counted)) (λ le. absurd (both_ways b is (tells.1 le))) (cases_lt room (73 + len))

  pub fits_so : b ≡ true → (73 + sum ≤ room) × (len ≡ sum)
  fits_so is = let le = tells.0 is in (omega (arith, le, counted, low), omega (arith, le, counted, low))

pub stop_len : (sum len least : ℕ) → len ≡ min sum (2 ^ 64 - 1) → least ≡ min (len + 73) (2 ^ 64 - 1) → least ≡ min (73 + sum) (2 ^ 64 - 1)
stop_len sum len least counted stopped = omega arith

-- the front without a property
pub start_is : (ps : List Hint) (t : Parts) (used len : ℕ) → used ≡ length (front_spaces t.props 0) → len ≡ min (base_len ps t + length (declared_text (take used ps))) (2 ^ 64 - 1) → len ≡ min (front_len ps t 0) (2 ^ 64 - 1)
unfolding front_len
start_is ps t used len before counted =
    let same = ap (λ n. length (declared_text (take n ps))) before in
    omega (arith, same, counted)

-- what is told where no front fits
pub stops_told : (t : Parts) (hints ps : List Hint) (room : ℕ) (stop : SplitStop) → ps ≡ whole t hints → FrontStops ps t room stop → Stops t hints room stop
stops_told t hints ps room Memory is found = tt
stops_told t hints ps room (TooLong least) is found =
    let told : FrontStops (whole t hints) t room (TooLong least) = subst (λ (ps : List Hint). FrontStops ps t room (TooLong least)) is found in record {
      never = never_fits t hints room told.0;
      least_is = λ digits capitals. told.1 ∙ ap (λ n. min (73 + n) (2 ^ 64 - 1)) (sym (front_len_is t hints digits 0 capitals));
    }

-- what is told of the front and the rest
pub split_told : (t : Parts) (hints ps own : List Hint) (room rest : ℕ) (front : Front) (form : Form) → ps ≡ whole t hints → IsFront ps t room front → form ≡ rest_form t front.count
    → own ≡ prefixes t hints form → rest ≡ min (length (written_text own t form)) (2 ^ 64 - 1) → Tells t hints room (record { count = front.count; front = front.len; rest = rest })
split_told t hints ps own room rest front form is found part of measured =
    let told = subst (λ (ps : List Hint). IsFront ps t room front) is found in record {
      largest = front_split t hints room front told;
      front = λ digits capitals. told.len_is ∙ sym (front_len_is t hints digits front.count capitals);
      rest = measured ∙ ap (λ ps. min (length (written_text ps t form)) (2 ^ 64 - 1)) of ∙ ap (λ form. min (text_len t hints form) (2 ^ 64 - 1)) part;
    }
