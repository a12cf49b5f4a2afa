-- Reading attributes one after the other, as a loop does.
use Rattle.std.proofs.Common.{◌≡◌, ℕ, suc, ◌-◌, ◌+◌, ◌≤◌, ◌<◌, List, [], ◌∷◌, ◌++◌, true, false, eqb, Option, Some, None, refl, sym, ap, ◌∙◌, append_assoc, arith}
use Rattle.std.proofs.lemmas.List.{append-nil}
use Rattle.xmp_values.specs.Characters.{is_blank}
use Rattle.xml_grammar.specs.declared.tags.RawAttribute.{RawAttribute}
use Rattle.xml_tokenizer.specs.declared.stops.Miss.{Miss}
use Rattle.xml_tokenizer.specs.declared.stops.Miss.TheVariants as misses
use Rattle.xml_tokenizer.specs.Runs.{past, width}
use Rattle.xml_tokenizer.specs.Steps.{◌>>=◌, Misses}
use Rattle.xml_tokenizer.specs.Tags.{closes, attribute_at, attributes_at}

-- what was read before, and what is still read
abbrev pub with_attributes : List RawAttribute → Option (List RawAttribute × List ℕ) → Option (List RawAttribute × List ℕ)
with_attributes front read = read >>= λ x. Some (front ++ x.0, x.1)

regroup : (front : List RawAttribute) (a : RawAttribute) (read : Option (List RawAttribute × List ℕ)) → with_attributes front (read >>= λ x. Some (a ∷ x.0, x.1)) ≡ with_attributes (front ++ a ∷ []) read
regroup front a (Some x) = ap (λ (others : List RawAttribute). Some (others, x.1)) (simp append_assoc)
regroup front a None = refl

pub goes_on : (front : List RawAttribute) (count i : ℕ) (cs after : List ℕ) (a : RawAttribute) (next : List ℕ) (total : Option (List RawAttribute × List ℕ)) → i < count
    → after ≡ past is_blank cs → closes after ≡ false → eqb (width after) (width cs) ≡ false → attribute_at after ≡ Some (a, next)
    → with_attributes front (attributes_at (count - i) cs) ≡ total → with_attributes (front ++ a ∷ []) (attributes_at (count - (i + 1)) next) ≡ total
unfolding attributes_at
goes_on front count i cs after a next total lt is unclosed moved h so_far =
    let k : count - i ≡ suc (count - (i + 1)) = omega arith in
    let one : with_attributes front (attributes_at (count - i) cs) ≡ with_attributes (front ++ a ∷ []) (attributes_at (count - (i + 1)) next) = rw (k, ← is, unclosed, moved, h) (regroup front a (attributes_at (count - (i + 1)) next)) in
    sym one ∙ so_far

pub misses_one : (e : Miss) (front : List RawAttribute) (count i : ℕ) (cs after : List ℕ) (total : Option (List RawAttribute × List ℕ)) → i < count
    → after ≡ past is_blank cs → closes after ≡ false → eqb (width after) (width cs) ≡ false → Misses e (attribute_at after)
    → with_attributes front (attributes_at (count - i) cs) ≡ total → Misses e total
unfolding attributes_at
misses_one misses.Memory front count i cs after total lt is unclosed moved h so_far = tt
misses_one misses.Nothing front count i cs after total lt is unclosed moved h so_far =
    let k : count - i ≡ suc (count - (i + 1)) = omega arith in
    let one : with_attributes front (attributes_at (count - i) cs) ≡ None = rw (k, ← is, unclosed, moved, h) refl in
    sym so_far ∙ one

pub stuck : (front : List RawAttribute) (count i : ℕ) (cs after : List ℕ) (total : Option (List RawAttribute × List ℕ)) → i < count
    → after ≡ past is_blank cs → closes after ≡ false → eqb (width after) (width cs) ≡ true
    → with_attributes front (attributes_at (count - i) cs) ≡ total → total ≡ None
unfolding attributes_at
stuck front count i cs after total lt is unclosed moved so_far =
    let k : count - i ≡ suc (count - (i + 1)) = omega arith in
    let one : with_attributes front (attributes_at (count - i) cs) ≡ None = rw (k, ← is, unclosed, moved) refl in
    sym so_far ∙ one

pub is_done : (front : List RawAttribute) (count i : ℕ) (cs after : List ℕ) (total : Option (List RawAttribute × List ℕ)) → i < count
    → after ≡ past is_blank cs → closes after ≡ true
    → with_attributes front (attributes_at (count - i) cs) ≡ total → total ≡ Some (front, after)
unfolding attributes_at
is_done front count i cs after total lt is close so_far =
    let k : count - i ≡ suc (count - (i + 1)) = omega arith in
    let one : with_attributes front (attributes_at (count - i) cs) ≡ Some (front, after) = rw (k, ← is, close) (ap (λ (others : List RawAttribute). Some (others, after)) (append-nil front)) in
    sym so_far ∙ one

pub ran_out : (front : List RawAttribute) (count i : ℕ) (cs : List ℕ) (total : Option (List RawAttribute × List ℕ)) → count ≤ i
    → with_attributes front (attributes_at (count - i) cs) ≡ total → total ≡ None
unfolding attributes_at
ran_out front count i cs total le so_far =
    let k : count - i ≡ 0 = omega arith in
    let one : with_attributes front (attributes_at (count - i) cs) ≡ None = rw k refl in
    sym so_far ∙ one
