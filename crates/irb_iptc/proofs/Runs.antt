-- Blocks one after another.
use Rattle.std.proofs.Common.{◌≡◌, ℕ, ◌+◌, ◌-◌, List, [], ◌∷◌, ◌++◌, length, drop, map, refl, sym, ap, subst, ◌∙◌, arith}
use Rattle.std.specs.Prelude.{flat_map}
use Rattle.std.proofs.lemmas.List.{drop_at, drop-drop, length-append, length-drop, map_push}
use Rattle.irb_iptc.specs.declared.block.Block.{Block}
use Rattle.irb_iptc.specs.Resources.{Resource, Stands, Begins, EndsList, IsCut, text}
use Rattle.irb_iptc.specs.Listing.{Placed, Lists, Broken, place, placed}
use Rattle.irb_iptc.specs.Reading.{IsFound, Underway, place_of}

-- how many bytes the blocks take
unfoldable pub room_of : List Resource → ℕ
room_of rs = length (flat_map text rs)

-- one block more
pub begins_more : (bytes : List ℕ) (rs : List Resource) (r : Resource) (rest more : List ℕ) → Begins bytes rs rest → Stands r rest more → Begins bytes (rs ++ r ∷ []) more
begins_more bytes [] r rest more b s = (more, subst (λ (l : List ℕ). Stands r l more) (sym b) s, refl)
begins_more bytes (x ∷ rs) r rest more b s = (b.0, b.1, begins_more b.0 rs r rest more b.2 s)

pub begins_length : (bytes : List ℕ) (rs : List Resource) (rest : List ℕ) → Begins bytes rs rest → length bytes ≡ room_of rs + length rest
unfolding room_of
begins_length bytes [] rest b = ap length b ∙ (let e : length rest ≡ 0 + length rest = omega arith in e)
begins_length bytes (r ∷ rs) rest b =
    omega (arith, begins_length b.0 rs rest b.2, ap length b.1.is, length-append (text r) b.0, length-append (text r) (flat_map text rs))

pub placed-append : (at : ℕ) (rs ss : List Resource) → placed at (rs ++ ss) ≡ placed at rs ++ placed (at + room_of rs) ss
unfolding room_of
placed-append at [] ss = ap (λ (k : ℕ). placed k ss) (omega arith)
placed-append at (r ∷ rs) ss = ap (λ ps. place at r ∷ ps) (placed-append (at + length (text r)) rs ss
    ∙ ap (λ (k : ℕ). placed (at + length (text r)) rs ++ placed k ss) (omega (arith, length-append (text r) (flat_map text rs))))

-- nothing has been read
pub underway_none : (bytes : List ℕ) (at : ℕ) → Underway bytes at [] at
underway_none bytes at = record {
  resources = [];
  begins = ap (λ (k : ℕ). drop k bytes) (let e : 0 ≡ at - at = omega arith in e);
  listed = refl;
  from = omega arith;
  within = omega arith;
}

module _ (bytes : List ℕ) (at : ℕ) (blocks : List Block) (start : ℕ) (u : Underway bytes at blocks start) where
  rest : List ℕ
  rest = drop (start - at) bytes

  pub passed : start ≡ at + room_of u.resources
  unfolding rest
  passed = omega (arith, begins_length bytes u.resources (drop (start - at) bytes) u.begins, length-drop (start - at) bytes, u.from, u.within)

  pub underway_more : (block : Block) → IsFound (drop (start - at) bytes) start block → Underway bytes at (blocks ++ block ∷ []) (block.body + block.size + block.pad)
  underway_more block f =
      let end = block.body + block.size + block.pad in
      let here : end ≡ start + length (text f.resource) = ap (λ (p : Placed). p.whole.end) f.is in
      let k = length (text f.resource) in
      let more_is : f.more ≡ drop (end - at) bytes =
      sym (drop_at (text f.resource) f.more k refl) ∙ ap (drop k) (sym f.stands.is) ∙ drop-drop k (start - at) bytes ∙ ap (λ (n : ℕ). drop n bytes) (omega (arith, here, u.from)) in
      record {
        resources = u.resources ++ f.resource ∷ [];
        begins = subst (λ (l : List ℕ). Begins bytes (u.resources ++ f.resource ∷ []) l) more_is (begins_more bytes u.resources f.resource (drop (start - at) bytes) f.more u.begins f.stands);
        listed = map_push place_of blocks block ∙ ap (λ ps. ps ++ place_of block ∷ []) u.listed ∙ ap (λ (p : Placed). placed at u.resources ++ p ∷ []) (f.is ∙ ap (λ (n : ℕ). place n f.resource) passed)
            ∙ sym (placed-append at u.resources (f.resource ∷ []));
        from = omega (arith, here, u.from);
        within = omega (arith, here, passed, begins_length bytes u.resources (drop (start - at) bytes) u.begins, ap length f.stands.is, length-append (text f.resource) f.more);
      }

  placed_end : start + length (drop (start - at) bytes) ≡ at + length bytes
  placed_end = omega (arith, length-drop (start - at) bytes, u.from, u.within)

  pub lists_here : EndsList (drop (start - at) bytes) → Lists bytes at (record { blocks = map place_of blocks; end = start })
  lists_here e = record { resources = u.resources; tail = drop (start - at) bytes; begins = u.begins; ends = e; placed = u.listed; end = placed_end }

  pub broken_here : IsCut (drop (start - at) bytes) → Broken bytes at start
  broken_here e = record { resources = u.resources; rest = drop (start - at) bytes; begins = u.begins; cut = e; start = placed_end }
