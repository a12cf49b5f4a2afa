-- What the first bytes of a block say of the bytes that it stands in.
use Rattle.std.proofs.Common.{◌≡◌, ℕ, ◌+◌, ◌<◌, ◌≤◌, true, nat_eq, List, [], ◌∷◌, ◌++◌, length, get_or, take, drop, refl, sym, ap, ◌∙◌, arith, lit≤, lit<}
use Rattle.std.specs.List.{starts_with}
use lib.Pointwise.{pointwise}
use Rattle.std.proofs.lemmas.List.{take-take, length-take, length-drop, drop_more, get_or-take, get_or-drop, take-append-drop, length-take-le}
use Rattle.std.proofs.lemmas.Slice.Eq.{starts_is}
use Rattle.std.proofs.lemmas.Bool.Decides.{Decides-eqb}
use Rattle.byteorder.specs.Endian.{big_number}
use Rattle.irb_iptc.specs.Resources.{IsCut, in_front, in_name, signature, name_room}
use Rattle.irb_iptc.specs.Reading.{IsNamed}

module _ (rest piece : List ℕ) (read : piece ≡ take 7 rest) (signed : starts_with nat_eq piece signature ≡ true) where
  signed_rest : starts_with nat_eq rest signature ≡ true
  signed_rest = ap (λ (l : List ℕ). pointwise nat_eq signature l) (sym (take-take 4 7 rest (lit≤ tt))) ∙ ap (λ (l : List ℕ). starts_with nat_eq l signature) (sym read) ∙ signed

  begins : rest ≡ signature ++ drop 4 rest
  begins = (starts_is Decides-eqb rest signature true (sym signed_rest)).0 refl

  size : length rest ≡ 4 + length (drop 4 rest)
  size = omega (arith, ap length begins)

  pub cut_in_front : length piece < 7 → IsCut rest
  cut_in_front h = in_front (drop 4 rest) begins (omega (arith, size, ap length read, length-take 7 rest))

  module _ (long : 7 ≤ length piece) where
    longer : 7 ≤ length rest
    longer = omega (arith, ap length read, length-take 7 rest)

    code : List ℕ
    code = get_or rest 4 0 ∷ get_or rest 5 0 ∷ []

    fields : rest ≡ signature ++ (code ++ (get_or rest 6 0 ∷ drop 7 rest))
    unfolding code
    fields = begins ∙ ap (λ (l : List ℕ). signature ++ l)
        (drop_more rest 4 0 (omega (arith, longer)) ∙ ap (λ (l : List ℕ). get_or rest 4 0 ∷ l)
        (drop_more rest 5 0 (omega (arith, longer)) ∙ ap (λ (l : List ℕ). get_or rest 5 0 ∷ l) (drop_more rest 6 0 (omega (arith, longer)))))

    piece_at : (i : ℕ) → i < 7 → get_or piece i 0 ≡ get_or rest i 0
    piece_at i h = ap (λ (l : List ℕ). get_or l i 0) read ∙ get_or-take 7 rest i 0 h

    room : length (drop 7 rest) + 7 ≡ length rest
    room = omega (arith, longer, length-drop 7 rest)

    pub cut_in_name : length rest < 7 + name_room (get_or piece 6 0) + 4 → IsCut rest
    unfolding code
    cut_in_name h = in_name code (drop 7 rest) (get_or rest 6 0) refl fields
        (let e = piece_at 6 (lit< tt) in let k = ap name_room e in omega (arith, room, k))

    pub named_here : (id : ℕ) → id ≡ big_number 2 (drop 4 piece) → 7 + name_room (get_or piece 6 0) + 4 ≤ length rest
        → IsNamed rest id (7 + name_room (get_or piece 6 0))
    unfolding code
    named_here id e h =
        let n = name_room (get_or rest 6 0) in
        let k : name_room (get_or piece 6 0) ≡ n = ap name_room (piece_at 6 (lit< tt)) in
        let there : n + 4 ≤ length (drop 7 rest) = omega (arith, room, k, h) in
        let long_name : length (take n (drop 7 rest)) ≡ n = length-take-le n (drop 7 rest) (omega arith) in
        record {
          code = code;
          named = get_or rest 6 0;
          name = take n (drop 7 rest);
          more = drop n (drop 7 rest);
          is = fields ∙ ap (λ (l : List ℕ). signature ++ (code ++ (get_or rest 6 0 ∷ l))) (sym (take-append-drop n (drop 7 rest)));
          coded = refl;
          roomy = long_name;
          id_is = e ∙ numbers (drop 4 piece) code (get_or-drop 4 piece 0 0 ∙ piece_at 4 (lit< tt)) (get_or-drop 4 piece 1 0 ∙ piece_at 5 (lit< tt));
          place = omega (arith, k, long_name);
          room = omega (arith, there, length-drop n (drop 7 rest));
        }
      where
        numbers : (xs ys : List ℕ) → get_or xs 0 0 ≡ get_or ys 0 0 → get_or xs 1 0 ≡ get_or ys 1 0 → big_number 2 xs ≡ big_number 2 ys
        numbers xs ys a b = cc
