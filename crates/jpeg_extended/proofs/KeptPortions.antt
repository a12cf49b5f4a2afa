-- Portions whose bytes are kept one after another.
use Rattle.std.proofs.Common.{◌≡◌, ℕ, suc, ◌+◌, ◌-◌, ◌≤◌, List, [], ◌∷◌, ◌++◌, Bool, true, false, cond, map, length, take, drop, refl, sym, ap, ◌∙◌, arith, subst, Some, None, Ok, Err}
use Rattle.std.specs.List.{list_all}
use Rattle.std.specs.Prelude.{flat_map, OnErr}
use Rattle.std.specs.declared.result.Result.{Result}
use Rattle.std.proofs.lemmas.List.{append-nil, map_push, take_rest, take-append-le, drop-append-le, drop_at, take_all, length-append, length-take-le, length-drop}
use Rattle.std.proofs.lemmas.List.Elements.{All-append, All-cons, All-nil, All-weaker}
use Rattle.std.proofs.lemmas.List.Sums.{AllPass-from_list_all, list_all-from_AllPass}
use Rattle.xmp_base.specs.declared.file_span.FileSpan.{FileSpan}
use Rattle.xmp_values.specs.Digits.{AreDigits, is_digit}
use Rattle.jpeg_extended.specs.declared.tiling.Head.{Head}
use Rattle.jpeg_extended.specs.Heads.{AreKept, bytes_in, extent_of, portion_in}
use Rattle.jpeg_extended.specs.Joined.{Joining}
use Rattle.jpeg_extended.specs.Portions.{Portion, extent, full_in, head_of, is_named, offset_in, portion_of}

-- the tail of a list of heads whose bytes are kept
pub kept_rest : (kept : List ℕ) (h : Head) (hs : List Head) → AreKept kept (h ∷ hs) → AreKept kept hs
kept_rest kept h hs a k d less = a (suc k) d (omega (arith, less))

bytes_more : (kept part : List ℕ) (h : Head) → h.at + h.len ≤ length kept → bytes_in (kept ++ part) h ≡ bytes_in kept h
bytes_more kept part h within =
    ap (take h.len) (drop-append-le h.at kept part (omega (arith, within)))
    ∙ take-append-le h.len (drop h.at kept) part (omega (arith, within, length-drop h.at kept))

-- more bytes after those that are kept change no portion
pub portions_more : (kept part : List ℕ) (hs : List Head) → AreKept kept hs → map (portion_in (kept ++ part)) hs ≡ map (portion_in kept) hs
portions_more kept part [] a = refl
portions_more kept part (h ∷ hs) a = (λ i. record { full = h.full; offset = h.offset; bytes = bytes_more kept part h (a 0 h (omega arith)) i } ∷ portions_more kept part hs (kept_rest kept h hs a) i)

-- the portion whose bytes are kept last
pub portion_last : (kept part : List ℕ) (h : Head) → h.at ≡ length kept → h.len ≡ length part → portion_in (kept ++ part) h ≡ record { full = h.full; offset = h.offset; bytes = part }
portion_last kept part h at len =
    ap (λ (b : List ℕ). record { full = h.full; offset = h.offset; bytes = b })
    (ap (take h.len) (ap (λ (k : ℕ). drop k (kept ++ part)) at ∙ drop_at kept part (length kept) refl)
    ∙ ap (λ (k : ℕ). take k part) len ∙ take_all (length part) part (omega arith))

-- the extents of kept portions are those of their heads
pub extents_kept : (kept : List ℕ) (hs : List Head) → AreKept kept hs → map extent (map (portion_in kept) hs) ≡ map extent_of hs
extents_kept kept [] a = refl
extents_kept kept (h ∷ hs) a =
    let within : h.at + h.len ≤ length kept = a 0 h (omega arith) in
    let size : length (bytes_in kept h) ≡ h.len = length-take-le h.len (drop h.at kept) (omega (arith, within, length-drop h.at kept)) in
    (λ i. record { full = h.full; offset = h.offset; len = size i } ∷ extents_kept kept hs (kept_rest kept h hs a) i)

pub bytes_kept : (kept : List ℕ) (hs : List Head) → flat_map (bytes_in kept) hs ≡ flat_map (λ (p : Portion). p.bytes) (map (portion_in kept) hs)
bytes_kept kept [] = refl
bytes_kept kept (h ∷ hs) = ap (λ (l : List ℕ). bytes_in kept h ++ l) (bytes_kept kept hs)

-- the range of a payload whose place doesn't matter
abbrev pub whole : List ℕ → FileSpan
whole payload = record { start = 0; end = length payload }

by_test : (b : Bool) (g h : Head) (p : Portion) → Some g ≡ cond b (Some h) None → (cond b (p ∷ []) [] ≡ p ∷ []) × (g ≡ h)
by_test true g h p e = (refl, cc e)
by_test false g h p e = absurd (cc e)

by_no_test : (b : Bool) (h : Head) (p : Portion) → None ≡ cond b (Some h) None → cond b (p ∷ []) [] ≡ []
by_no_test true h p e = absurd (cc e)
by_no_test false h p e = refl

-- what the head of a whole payload says of the portion
module _ (name payload : List ℕ) where
  abbrev portion : Portion
  portion = record { full = full_in payload; offset = offset_in payload; bytes = drop 75 payload }

  abbrev head : Head
  head = record { full = full_in payload; offset = offset_in payload; len = length payload - 0 - 75; at = 0 + 75 }

  from_start : length payload - 0 ≡ length payload
  from_start = omega arith

  pub is_portion : (g : Head) → Some g ≡ head_of name payload (whole payload) → portion_of name payload ≡ record { full = g.full; offset = g.offset; bytes = drop 75 payload } ∷ []
  is_portion g e =
      let t = by_test (is_named name payload (length payload - 0)) g head portion e in
      subst (λ (n : ℕ). cond (is_named name payload n) (portion ∷ []) [] ≡ portion ∷ []) from_start t.0
      ∙ ap (λ (h : Head). record { full = h.full; offset = h.offset; bytes = drop 75 payload } ∷ []) (sym t.1)

  pub head_len : (g : Head) → Some g ≡ head_of name payload (whole payload) → g.len ≡ length (drop 75 payload)
  head_len g e = ap (λ (h : Head). h.len) (by_test (is_named name payload (length payload - 0)) g head portion e).1 ∙ omega (arith, length-drop 75 payload)

  pub no_portion : None ≡ head_of name payload (whole payload) → portion_of name payload ≡ []
  no_portion e = subst (λ (n : ℕ). cond (is_named name payload n) (portion ∷ []) [] ≡ []) from_start (by_no_test (is_named name payload (length payload - 0)) head portion e)

pub add_none : (name payload : List ℕ) (j : Joining) → name ≡ j.name → None ≡ head_of name payload (whole payload) → j ≡ record j { portions = j.portions ++ portion_of j.name payload }
add_none name payload j is e =
    ap (λ (ps : List Portion). record j { portions = ps })
    (sym (append-nil j.portions) ∙ ap (λ (ps : List Portion). j.portions ++ ps) (sym (no_portion name payload e) ∙ ap (λ (n : List ℕ). portion_of n payload) is))

-- a head, and its bytes, were kept after the others
module _ (kept more part : List ℕ) (hs new : List Head) (h : Head) (a : AreKept kept hs) (grown : more ≡ kept ++ part) (pushed : new ≡ hs ++ h ∷ []) (at : h.at ≡ length kept) (len : h.len ≡ length part) where
  pub kept_pushed : AreKept more new
  kept_pushed =
      let size : length more ≡ length kept + length part = ap length grown ∙ length-append kept part in
      let both : AreKept more (hs ++ h ∷ []) = All-append (λ (g : Head). g.at + g.len ≤ length more) hs (h ∷ [])
      (All-weaker (λ (g : Head). g.at + g.len ≤ length kept) (λ (g : Head). g.at + g.len ≤ length more) (λ g le. omega (arith, le, size)) hs a)
      (All-cons (λ (g : Head). g.at + g.len ≤ length more) h [] (omega (arith, size, at, len)) (All-nil (λ (g : Head). g.at + g.len ≤ length more))) in
      subst (λ (l : List Head). AreKept more l) (sym pushed) both

  pub portions_pushed : map (portion_in more) new ≡ map (portion_in kept) hs ++ record { full = h.full; offset = h.offset; bytes = part } ∷ []
  portions_pushed =
      (λ i. map (portion_in (grown i)) (pushed i))
      ∙ map_push (portion_in (kept ++ part)) hs h
      ∙ (λ i. portions_more kept part hs a i ++ portion_last kept part h at len i ∷ [])

-- what stands after the head of a payload was kept
pub grown : (kept more payload : List ℕ) → more ≡ kept ++ take (length payload - 75) (drop 75 payload) → more ≡ kept ++ drop 75 payload
grown kept more payload e = e ∙ ap (λ (l : List ℕ). kept ++ l) (take_rest payload 75)

pub on_err : {A E : Type 0} {P : Type 0} (r : Result A E) → P → OnErr r P
on_err (Ok x) p = tt
on_err (Err e) p = p

-- 32 digits by the test of each
pub digits_true : (bs : List ℕ) → AreDigits bs → list_all is_digit bs ≡ true
digits_true bs d = list_all-from_AllPass is_digit bs d.1

pub digits_from : (bs : List ℕ) → length bs ≡ 32 → list_all is_digit bs ≡ true → AreDigits bs
digits_from bs size all = (size, AllPass-from_list_all is_digit bs all)
