-- The prefixes of a front as it grows are the first of the whole's.
use Rattle.std.proofs.Common.{◌≡◌, ℕ, ◌+◌, ◌-◌, ◌^◌, ◌<◌, ◌≤◌, List, Bor, [], ◌∷◌, ◌++◌, length, take, drop, get_or, fold, min, sym, ap, subst, ◌∙◌, length-append, arith}
use Rattle.std.specs.Prelude.{codes, slice_range}
use Rattle.std.specs.List.{flat_map}
use Rattle.std.proofs.lemmas.Grind.{flat_map-append}
use Rattle.std.proofs.lemmas.List.{append-nil, take_more, take_all, take_at, take_rest, take-take, take-append-drop, drop-map, drop-take}
use Rattle.std.proofs.lemmas.List.Sums.{fold-append}
use Rattle.std.proofs.lemmas.List.Elements.{All-head}
use Rattle.xmp_values.specs.declared.hints.Hint.{Hint}
use Rattle.xmp_values.specs.Texts.{texts_of}
use Rattle.xmp_tree.specs.declared.nested.Member.{Member}
use Rattle.xmp_tree.specs.Parts.{Parts}
use Rattle.xmp_tree.specs.Wf.{note_name}
use Rattle.xmp_write.specs.declared.prefixes.Growing.{Growing}
use Rattle.xmp_write.specs.Prefixes.{spaces_in, with_prefix, with_use, written_prefix}
use Rattle.xmp_write.specs.Grown.{IsGrown}
use Rattle.xmp_write.specs.Written.{member_spaces}
use Rattle.xmp_write.specs.Text.{attribute_text, declared_text, element_text, member_text, text_escaped}
use Rattle.xmp_write.specs.Splits.{base_len, front_len, front_spaces, given_to, zeros}
use Rattle.xmp_write.proofs.FrontLengths.{whole}
use Rattle.xmp_write.proofs.FrontTexts.{front_alike, front_given, given_len, later_spaces, more_uses}
use Rattle.xmp_write.proofs.PlaceMaps.{spaces_in-given}
use Rattle.xmp_write.proofs.SameTexts.{AreAlike, All-end, member_alike}
use Rattle.xmp_write.proofs.SplitSteps.{base_is, spaces_step, start_is, more_is}
use Rattle.xmp_write.proofs.TextParts.{note_line}

-- the namespaces whose prefixes are given
pub grown_spaces : (hints : List Hint) (spaces : List (List ℕ)) (g : Growing) → IsGrown hints spaces g → spaces_in g.prefixes ≡ spaces
grown_spaces hints spaces g grown = ap spaces_in grown.list ∙ spaces_in-given hints [] spaces

-- those with which a use begins stay first
pub first_uses : (old uses : List (List ℕ)) (n : ℕ) → n ≡ length old → take n (fold with_use old uses) ≡ old
first_uses old uses n is = let more = more_uses uses old in ap (take n) more.1 ∙ take_at old more.0 n (sym is)

-- prefixes that are given to the first of these namespaces, and then to the others
pub all_given : (hints given : List Hint) (spaces : List (List ℕ)) (n : ℕ) → given ≡ fold (with_prefix hints) [] (take n spaces)
    → fold (with_prefix hints) given (drop n spaces) ≡ fold (with_prefix hints) [] spaces
all_given hints given spaces n first =
    ap (λ g. fold (with_prefix hints) g (drop n spaces)) first
    ∙ sym (fold-append (with_prefix hints) [] (take n spaces) (drop n spaces)) ∙ ap (fold (with_prefix hints) []) (take-append-drop n spaces)

-- the same of a call's list
pub rest_given : (hints given list : List Hint) (spaces : List (List ℕ)) (texts : List (Bor (List ℕ))) (n : ℕ) → texts_of texts ≡ spaces → n ≡ length given
    → given ≡ fold (with_prefix hints) [] (take (length given) spaces) → list ≡ fold (with_prefix hints) given (texts_of (take (length texts - n) (drop n texts)))
    → list ≡ fold (with_prefix hints) [] spaces
rest_given hints given list spaces texts n are is first put =
    let rest = ap texts_of (take_rest texts n) ∙ sym (drop-map (λ (text : Bor (List ℕ)). text.now) n texts) ∙ ap (drop n) are ∙ ap (λ k. drop k spaces) is in
    put ∙ ap (fold (with_prefix hints) given) rest ∙ all_given hints given spaces (length given) first

pub more_long : (old uses : List (List ℕ)) → length old ≤ length (fold with_use old uses)
more_long old uses = let more = more_uses uses old in omega (arith, ap length more.1, length-append old more.0)

module _ (hints : List Hint) (t : Parts) where
  -- the prefixes of a front
  abbrev pub own : ℕ → List Hint
  own k = given_to hints (front_spaces t.props k)

  pub own_len : (k : ℕ) → length (own k) ≡ length (front_spaces t.props k)
  own_len k = given_len hints t.props (front_spaces t.props k)

  -- a property is written alike with the prefixes of its front and with the whole's
  pub own_member : (k : ℕ) (m : Member) → k < length t.props → m ≡ get_or t.props k m → member_text (own (k + 1)) m ≡ member_text (whole t hints) m
  own_member k m within here =
      let ps = own (k + 1) in
      let qs = whole t hints in
      let more = take_more t.props k m within ∙ ap (λ x. take k t.props ++ x ∷ []) (sym here) in
      let front = note_name.space ∷ flat_map member_spaces (take k t.props) in
      let parts = ap (λ ms. note_name.space ∷ flat_map member_spaces ms) more
      ∙ ap (λ rest. note_name.space ∷ rest) (flat_map-append member_spaces (take k t.props) (m ∷ []) ∙ ap (λ rest. flat_map member_spaces (take k t.props) ++ rest) (append-nil (member_spaces m))) in
      member_alike ps qs m (All-end (λ space. written_prefix ps space ≡ written_prefix qs space) front (member_spaces m) (subst (AreAlike ps qs) parts (front_alike hints t.props (k + 1))))

  pub own_declared : (k used to : ℕ) → to ≡ length (front_spaces t.props k) → used ≤ to → slice_range (own k) used to ≡ slice_range (whole t hints) used to
  own_declared k used to is order =
      let qs = whole t hints in
      let first : take to qs ≡ own k = ap (λ n. take n qs) is ∙ front_given hints t.props k in
      let j = to - used in
      let wide : used + j ≡ to = omega arith in
      ap (λ ps. take j (drop used ps)) (sym first) ∙ ap (λ n. take j (drop used (take n qs))) (sym wide) ∙ ap (take j) (drop-take used j qs) ∙ take-take j j (drop used qs) (omega arith)

  -- the note is written alike too
  own_base : (k : ℕ) → base_len (own k) t ≡ base_len (whole t hints) t
  own_base k =
      let qs = whole t hints in
      let P = λ (space : List ℕ). written_prefix (own k) space ≡ written_prefix qs space in
      let note = note_line (own k) zeros
      ∙ ap (λ prefix. element_text (prefix ++ codes ":" ++ note_name.local) [] (text_escaped zeros) ++ codes "\n") (All-head P note_name.space (flat_map member_spaces (take k t.props)) (front_alike hints t.props k))
      ∙ sym (note_line qs zeros) in
      base_is (own k) t ∙ ap (λ text. 164 + length (attribute_text (codes "rdf:about") t.about) + length text) note ∙ sym (base_is qs t)

  pub own_start : (used : ℕ) → used ≡ length (front_spaces t.props 0)
      → base_len (own 0) t + length (declared_text (take used (own 0))) ≡ base_len (whole t hints) t + length (declared_text (take used (whole t hints)))
  own_start used is =
      let all = take_all used (own 0) (omega (arith, is, own_len 0)) ∙ sym (ap (λ n. take n (whole t hints)) is ∙ front_given hints t.props 0) in
      ap (λ base. base + length (declared_text (take used (own 0)))) (own_base 0) ∙ ap (λ ps. base_len (whole t hints) t + length (declared_text ps)) all

  -- the front without a property, as the call counts it
  pub counted_start : (g : Growing) (used len : ℕ) → IsGrown hints (front_spaces t.props 0) g → used ≡ length g.prefixes
      → len ≡ min (base_len g.prefixes t + length (declared_text (take used g.prefixes))) (2 ^ 64 - 1) → len ≡ min (front_len (whole t hints) t 0) (2 ^ 64 - 1)
  counted_start g used len grown before counted =
      let used_is = before ∙ ap length grown.list ∙ own_len 0 in
      start_is (whole t hints) t used len used_is
      (counted ∙ ap (λ ps. min (base_len ps t + length (declared_text (take used ps))) (2 ^ 64 - 1)) grown.list ∙ ap (λ n. min n (2 ^ 64 - 1)) (own_start used used_is))

-- one property more, as the call counts it
module _ (hints : List Hint) (t : Parts) (k : ℕ) (m : Member) (old new : Growing) (used to : ℕ) (grown : IsGrown hints (front_spaces t.props k) old)
    (more : IsGrown hints (fold with_use (spaces_in old.prefixes) (member_spaces m)) new) (before : used ≡ length old.prefixes) (after : to ≡ length new.prefixes)
    (within : k < length t.props) (here : m ≡ get_or t.props k m) where
  pub more_grown : IsGrown hints (front_spaces t.props (k + 1)) new
  more_grown =
      subst (λ spaces. IsGrown hints spaces new)
      (ap (λ spaces. fold with_use spaces (member_spaces m)) (grown_spaces hints (front_spaces t.props k) old grown) ∙ spaces_step t.props k m within here) more

  used_is : used ≡ length (front_spaces t.props k)
  used_is = before ∙ ap length grown.list ∙ own_len hints t k

  to_is : to ≡ length (front_spaces t.props (k + 1))
  to_is = after ∙ ap length more_grown.list ∙ own_len hints t (k + 1)

  pub in_order : used ≤ to
  in_order =
      let later = later_spaces hints t.props k 1 in
      omega (arith, used_is, to_is, ap length later.1, length-append (front_spaces t.props k) later.0)

  pub counted_more : (len next : ℕ) → len ≡ min (front_len (whole t hints) t k) (2 ^ 64 - 1)
      → next ≡ min (len + (length (member_text new.prefixes m) + 1 + length (declared_text (slice_range new.prefixes used to)))) (2 ^ 64 - 1)
      → next ≡ min (front_len (whole t hints) t (k + 1)) (2 ^ 64 - 1)
  counted_more len next count counted =
      more_is (whole t hints) t k m used to len next within here used_is to_is in_order count
      (counted ∙ ap (λ ps. min (len + (length (member_text ps m) + 1 + length (declared_text (slice_range ps used to)))) (2 ^ 64 - 1)) more_grown.list
      ∙ ap (λ text. min (len + (length text + 1 + length (declared_text (slice_range (own hints t (k + 1)) used to)))) (2 ^ 64 - 1)) (own_member hints t k m within here)
      ∙ ap (λ ps. min (len + (length (member_text (whole t hints) m) + 1 + length (declared_text ps))) (2 ^ 64 - 1)) (own_declared hints t (k + 1) used to to_is in_order))
