-- The search for the first block of an id.
use Rattle.std.proofs.Common.{◌≡◌, ℕ, ◌+◌, ◌-◌, Bool, true, false, cond, List, [], ◌∷◌, ◌++◌, length, take, drop, map, Option, Some, None, refl, sym, ap, subst, ◌∙◌, arith}
use Rattle.std.specs.Prelude.{◌==◌, slice_get}
use Rattle.std.specs.Option.{option_map}
use Rattle.std.proofs.lemmas.List.{drop-drop}
use Rattle.xmp_base.specs.declared.file_span.FileSpan.{FileSpan}
use Rattle.xmp_values.specs.declared.span.Span.{Span}
use Rattle.lent_bytes.specs.Lending.{replaced}
use Rattle.irb_iptc.specs.declared.block.Block.{Block}
use Rattle.irb_iptc.specs.Resources.{Resource, Begins, EndsList, IsCut, text}
use Rattle.irb_iptc.specs.Listing.{Placed, Listing, Lists, of_id, place, placed, in_memory}
use Rattle.irb_iptc.specs.Reading.{IsFound, Underway, place_of}
use Rattle.irb_iptc.proofs.Runs.{placed-append, room_of, passed}
use Rattle.irb_iptc.proofs.Unique.{continues, stands_same, stands_on, nothing_more, cut_list}

filter_cons : (b : Bool) (x : Placed) (xs ys zs : List Placed) → xs ≡ ys ++ zs → cond b (x ∷ xs) xs ≡ cond b (x ∷ ys) ys ++ zs
filter_cons true x xs ys zs e = ap (λ l. x ∷ l) e
filter_cons false x xs ys zs e = e

pub of_id-append : (id : ℕ) (xs ys : List Placed) → of_id id (xs ++ ys) ≡ of_id id xs ++ of_id id ys
of_id-append id [] ys = refl
of_id-append id (x ∷ xs) ys = filter_cons (x.id == id) x _ _ _ (of_id-append id xs ys)

module _ (id : ℕ) (bytes : List ℕ) (blocks : List Block) (at : ℕ) (u : Underway bytes 0 blocks at) (none : of_id id (map place_of blocks) ≡ []) where
  -- the blocks of the list after those that were passed
  later : (listing : Listing) (l : Lists bytes 0 listing) (more : List Resource) → l.resources ≡ u.resources ++ more → of_id id listing.blocks ≡ of_id id (placed at more)
  later listing l more e =
      ap (of_id id) (l.placed ∙ ap (placed 0) e ∙ placed-append 0 u.resources more ∙ ap (λ ps. ps ++ placed (0 + room_of u.resources) more) (sym u.listed)
      ∙ ap (λ (k : ℕ). map place_of blocks ++ placed k more) (sym (passed bytes 0 blocks at u)))
      ∙ of_id-append id (map place_of blocks) (placed at more) ∙ ap (λ ps. ps ++ of_id id (placed at more)) none

  pub first_found : (block : Block) → IsFound (drop (at - 0) bytes) at block → (block.id == id) ≡ true → (listing : Listing) → Lists bytes 0 listing
      → slice_get (of_id id listing.blocks) 0 ≡ Some (place_of block)
  first_found block f h listing l =
      let c = continues bytes u.resources l.resources (drop (at - 0) bytes) l.tail u.begins l.begins l.ends in
      by_more c.0 c.1 c.2
    where
      by_more : (more : List Resource) → l.resources ≡ u.resources ++ more → Begins (drop (at - 0) bytes) more l.tail → slice_get (of_id id listing.blocks) 0 ≡ Some (place_of block)
      by_more [] e b = absurd (stands_on f.resource _ f.more f.stands (subst EndsList (sym b) l.ends))
      by_more (s ∷ more) e b =
          let k = stands_same f.resource s _ f.more b.0 f.stands b.1 in
          let here : place at s ≡ place_of block = ap (place at) (sym k.0) ∙ sym f.is in
          ap (λ ps. slice_get ps 0) (later listing l (s ∷ more) e ∙ ap (λ (p : Placed). of_id id (p ∷ placed (at + length (text s)) more)) here
          ∙ ap (λ (t : Bool). cond t (place_of block ∷ of_id id (placed (at + length (text s)) more)) (of_id id (placed (at + length (text s)) more))) h)

  pub none_found : EndsList (drop (at - 0) bytes) → (listing : Listing) → Lists bytes 0 listing → slice_get (of_id id listing.blocks) 0 ≡ None
  none_found ends listing l =
      let c = continues bytes u.resources l.resources (drop (at - 0) bytes) l.tail u.begins l.begins l.ends in
      let n = nothing_more (drop (at - 0) bytes) c.0 l.tail ends c.2 in
      ap (λ ps. slice_get ps 0) (later listing l c.0 c.1 ∙ ap (λ rs. of_id id (placed at rs)) n.0)

  pub cut_found : IsCut (drop (at - 0) bytes) → (listing : Listing) → Lists bytes 0 listing → ⊥
  cut_found cut listing l =
      let c = continues bytes u.resources l.resources (drop (at - 0) bytes) l.tail u.begins l.begins l.ends in
      cut_list (drop (at - 0) bytes) c.0 l.tail cut c.2 l.ends

-- the range in memory of a range that is there
pub told : (o : Option FileSpan) (span : Span) → Some span ≡ option_map in_memory o → (s : FileSpan) × (o ≡ Some s) × (span.start ≡ s.start) × (span.end ≡ s.end)
told None span e = absurd (cc)
told (Some s) span e = (s, refl, (let k : span ≡ in_memory s = cc in ap (λ (x : Span). x.start) k), (let k : span ≡ in_memory s = cc in ap (λ (x : Span). x.end) k))

-- sixteen bytes from a place on are those up to another
pub sixteen_replaced : (xs w : List ℕ) (start end from to : ℕ) → start ≡ from → end ≡ to → end ≡ start + 16 → take start xs ++ (w ++ drop 16 (drop start xs)) ≡ replaced xs from to w
sixteen_replaced xs w start end from to a b c =
    ap (λ (l : List ℕ). take start xs ++ (w ++ l)) (drop-drop 16 start xs)
    ∙ ap (λ (k : ℕ). take start xs ++ (w ++ drop k xs)) (sym c ∙ b) ∙ ap (λ (k : ℕ). take k xs ++ (w ++ drop to xs)) a

pub sixteen_of : (xs : List ℕ) (start end from to : ℕ) → start ≡ from → end ≡ to → end ≡ start + 16 → take 16 (drop start xs) ≡ take (to - from) (drop from xs)
sixteen_of xs start end from to a b c =
    ap (λ (k : ℕ). take k (drop start xs)) (let e : 16 ≡ to - from = omega (arith, a, b, c) in e) ∙ ap (λ (k : ℕ). take (to - from) (drop k xs)) a
