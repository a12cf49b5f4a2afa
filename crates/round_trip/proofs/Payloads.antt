-- A packet that is written is a text of its own and may be written again: it begins with a header and ends with the trailer.
use Rattle.std.proofs.Common.{◌≡◌, ℕ, ◌+◌, ◌-◌, Bool, true, false, cond, List, [], ◌∷◌, ◌++◌, take, drop, reverse, refl, ap, sym, ◌∙◌, append_assoc, length-append, arith}
use Rattle.std.specs.Prelude.{IsTrue, codes, nat_eq, ◌==◌}
use Rattle.std.specs.List.{suffix_len, prefix_len, starts_with, ends_with}
use Rattle.std.specs.Cmp.Lexicographic.{pointwise}
use Rattle.std.proofs.Math.Seq.{take-length, drop-append_seam}
use Rattle.std.proofs.lemmas.List.{reverse-append}
use Rattle.std.proofs.lemmas.Bool.{and_from, or_left}
use Rattle.xmp_values.specs.Characters.{is_blank}
use Rattle.xmp_values.specs.declared.hints.Hint.{Hint}
use Rattle.xmp_tree.specs.Parts.{Parts}
use Rattle.xmp_write.specs.declared.forms.Form.{Form}
use Rattle.xmp_packets.specs.Packets.{without_end, packet_text, is_writable, is_packet_for_writing}
use Rattle.xmp_write.specs.Text.{written_text}
use Rattle.xmp_write.specs.WrittenPackets.{header, pad, trailer, least_len, packet}

no_suffix : (passes : ℕ → Bool) (front : List ℕ) (c : ℕ) → passes c ≡ false → suffix_len passes (front ++ c ∷ []) ≡ 0
no_suffix passes front c fails =
    ap (prefix_len passes) (reverse-append front (c ∷ [])) ∙ ap (λ (b : Bool). cond b (1 + prefix_len passes (reverse front)) 0) fails

-- nothing stands after the trailer
nothing_after : (passes : ℕ → Bool) (front : List ℕ) → passes 0x3E ≡ false → without_end passes (front ++ trailer) ≡ front ++ trailer
nothing_after passes front fails =
    let all : List ℕ = front ++ trailer in
    let none : suffix_len passes all ≡ 0 =
    ap (suffix_len passes) (sym (append_assoc front (codes "<?xpacket end=\"w\"?") (codes ">"))) ∙ no_suffix passes (front ++ codes "<?xpacket end=\"w\"?") 0x3E fails in
    ap (λ (n : ℕ). take n all) (omega (arith, none)) ∙ take-length all

ends_so : (front : List ℕ) → ends_with nat_eq (front ++ trailer) trailer ≡ true
ends_so front =
    let long = length-append front trailer in
    ap (λ (n : ℕ). pointwise nat_eq trailer (drop n (front ++ trailer))) (omega (arith, long)) ∙ ap (pointwise nat_eq trailer) (drop-append_seam front trailer)

module _ (ps : List Hint) (t : Parts) (form : Form) (len : ℕ) where
  abbrev front : List ℕ
  front = header ++ written_text ps t form ++ pad (len - least_len ps t form)

  parts : packet ps t form len ≡ front ++ trailer
  unfolding packet
  parts = refl

  pub text_is : packet_text (packet ps t form len) ≡ packet ps t form len
  text_is = ap packet_text parts ∙ nothing_after (λ byte. byte == 0) front refl ∙ sym parts

  begins : starts_with nat_eq (front ++ trailer) (codes "<?xpacket begin=") ≡ true
  begins = refl

  for_writing : is_packet_for_writing (front ++ trailer) ≡ true
  unfolding is_blank
  for_writing =
      and_from (starts_with nat_eq (front ++ trailer) (codes "<?xpacket begin=")) _ begins
      (or_left (ends_with nat_eq (without_end is_blank (front ++ trailer)) (codes "<?xpacket end=\"w\"?>")) _
      (ap (λ (x : List ℕ). ends_with nat_eq x trailer) (nothing_after is_blank front refl) ∙ ends_so front))

  pub may_write_again : IsTrue (is_writable (packet ps t form len))
  may_write_again = ap is_packet_for_writing (text_is ∙ parts) ∙ for_writing
