-- A file and an edit have at most one plan, or one fault of it.
use Rattle.std.proofs.Common.{◌≡◌, ◌∙◌, ℕ, ◌+◌, arith, List, [], length, Bool, true, false, Option, Some, None, Ok, Err, sym, ap, inl, inr, if◌then◌else◌}
use Rattle.std.specs.declared.result.Result.{Result}
use Rattle.xmp_values.specs.declared.faults.Fault.{Fault}
use Rattle.xmp_values.specs.declared.hints.Hint.{Hint}
use Rattle.xmp_values.specs.declared.rules.Rule.TheVariants.{NoFile}
use Rattle.xmp_tree.specs.Parts.{Parts}
use Rattle.jpeg_regions.specs.Jpeg.{Region}
use Rattle.jpeg_extended.specs.Written.{name_text}
use Rattle.jpeg_relocation.proofs.Names.{name_capitals}
use Rattle.xmp_base.specs.declared.file_span.FileSpan.{FileSpan}
use Rattle.xmp_files.specs.Keeping.{Container, Text, Segments, Directories, Kept}
use Rattle.xmp_files.specs.Faults.{file_limit, packet_limit, over_packet, over_extended}
use Rattle.std.specs.Prelude.{nat_lt}
use Rattle.jpeg_relocation.specs.declared.pictures.MovedPictures.{MovedPictures}
use Rattle.jpeg_relocation.specs.Pictures.{moved_pictures}
use Rattle.tiff_relocation.specs.Relocation.{lacks_room, packet_place, tells}
use Rattle.xmp_files.specs.Planning.{Edited, Part, parts_len, Plan, Relocated}
use Rattle.xmp_files.specs.Plans.{put_among, put_both, rest_text, front_packet, over_segment, over_entries, over_offsets, appended_parts, within_out, IsDivided, after_pictures, over_out, unless_moved, parts_around, segments_text, segment_padded, packet_of, IsRelocation, OrRelocation, IsPlanned, unmoved, needs_relocation, padding, least_of, told, room_of, fits, stays}

one_divided : (regions : List Region) (portions : List FileSpan) (t : Parts) (hints : List Hint) (a b : Result Plan Fault) → IsDivided regions portions t hints a → IsDivided regions portions t hints b → a ≡ b
one_divided regions portions t hints a b (inl (k, s, p)) (inl (m, u, q)) =
    let same : k ≡ m = omega (arith, s.largest m u.within u.fits, u.largest k s.within s.fits) in p ∙ ap (put_both regions portions t hints) same ∙ sym q
one_divided regions portions t hints a b (inl (k, s, p)) (inr (m, n, q)) = absurd (n.never k s.within s.fits)
one_divided regions portions t hints a b (inr (k, n, p)) (inl (m, u, q)) = absurd (n.never m u.within u.fits)
one_divided regions portions t hints a b (inr (k, n, p)) (inr (m, o, q)) =
    let same : k ≡ m = n.least_is (name_text []) (name_capitals []) ∙ sym (o.least_is (name_text []) (name_capitals [])) in
    p ∙ ap (λ (l : ℕ). let r : Result Plan Fault = Err (over_segment l) in r) same ∙ sym q

one_relocation : (container : Container) (portions : List FileSpan) (e : Edited) (a b : Result Plan Fault) → IsRelocation container portions e a → IsRelocation container portions e b → a ≡ b
one_relocation Text portions e a b p q = p ∙ sym q
one_relocation (Segments regions) portions e a b (inl p) (inl q) = p.1 ∙ sym q.1
one_relocation (Segments regions) portions e a b (inl p) (inr q) = absurd (omega (arith, p.0, q.0))
one_relocation (Segments regions) portions e a b (inr p) (inl q) = absurd (omega (arith, p.0, q.0))
one_relocation (Segments regions) portions e a b (inr p) (inr q) = one_divided regions portions e.new e.hints a b p.1 q.1
one_relocation (Directories size tiff) portions e a b p q = p ∙ sym q

one_moved : (known : Option (Result Plan Fault)) (container : Container) (portions : List FileSpan) (e : Edited) (a b : Result Plan Fault) → OrRelocation known container portions e a → OrRelocation known container portions e b → a ≡ b
one_moved (Some known) container portions e a b p q = p ∙ sym q
one_moved None container portions e a b p q = one_relocation container portions e a b p q

pub one_planned : (kept : Kept) (joined patch : Bool) (e : Edited) (a b : Result Plan Fault) → IsPlanned kept joined patch e a → IsPlanned kept joined patch e b → a ≡ b
one_planned kept joined patch e a b (inl p) (inl q) = p.1 ∙ sym q.1
one_planned kept joined patch e a b (inl p) (inr q) = absurd (q.0 p.0)
one_planned kept joined patch e a b (inr p) (inl q) = absurd (p.0 q.0)
one_planned kept joined patch e a b (inr p) (inr q) = one_moved (unmoved kept.payload kept.container joined patch e) kept.container kept.portions e a b p.1 q.1

-- No plan is refused as that of a file that isn't there.

named_there : (fault f : Fault) → (f.rule ≡ NoFile → ⊥) → (let r : Result Plan Fault = Err fault in r) ≡ Err f → fault.rule ≡ NoFile → ⊥
named_there fault f other h rule = let is : fault ≡ f = cc h in other (sym (ap (λ (x : Fault). x.rule) is) ∙ rule)

out_there : (over : Bool) (parts : List Part) (f fault : Fault) → (f.rule ≡ NoFile → ⊥) → (let r : Result Plan Fault = Err fault in r) ≡ (if over then Err f else Ok (Relocated parts))
    → fault.rule ≡ NoFile → ⊥
out_there true parts f fault other h rule = named_there fault f other h rule
out_there false parts f fault other h rule = cc h

among_there : (o : Option MovedPictures) (parts : List Part) (fault : Fault) → (let r : Result Plan Fault = Err fault in r) ≡ unless_moved o parts → fault.rule ≡ NoFile → ⊥
among_there (Some moved) parts fault h rule = named_there fault (after_pictures moved) (λ x. cc) h rule
among_there None parts fault h rule = out_there (nat_lt file_limit (parts_len parts)) parts (over_out (told (parts_len parts))) fault (λ x. cc) h rule

both_there : (over : Bool) (regions : List Region) (portions : List FileSpan) (new : List ℕ) (f fault : Fault) → (f.rule ≡ NoFile → ⊥)
    → (let r : Result Plan Fault = Err fault in r) ≡ (if over then Err f else put_among regions portions new) → fault.rule ≡ NoFile → ⊥
both_there true regions portions new f fault other h rule = named_there fault f other h rule
both_there false regions portions new f fault other h rule = among_there (moved_pictures portions regions (length new)) (parts_around regions portions new) fault h rule

divided_there : (regions : List Region) (portions : List FileSpan) (t : Parts) (hints : List Hint) (fault : Fault) → IsDivided regions portions t hints (Err fault) → fault.rule ≡ NoFile → ⊥
divided_there regions portions t hints fault (inl (k, s, h)) rule =
    let rest : List ℕ = rest_text t hints k in
    both_there (nat_lt packet_limit (length rest)) regions portions (segments_text (front_packet t hints k) (Some rest)) (over_extended (told (length rest))) fault (λ x. cc) h rule
divided_there regions portions t hints fault (inr (least, n, h)) rule = named_there fault (over_segment least) (λ x. cc) h rule

last_there : (lacks fits : Bool) (f g fault : Fault) (parts : List Part) → (f.rule ≡ NoFile → ⊥) → (g.rule ≡ NoFile → ⊥)
    → (let r : Result Plan Fault = Err fault in r) ≡ (if lacks then Err f else (if fits then within_out parts else Err g)) → fault.rule ≡ NoFile → ⊥
last_there true fits f g fault parts not_f not_g h rule = named_there fault f not_f h rule
last_there false true f g fault parts not_f not_g h rule = among_there None parts fault h rule
last_there false false f g fault parts not_f not_g h rule = named_there fault g not_g h rule

relocation_there : (container : Container) (portions : List FileSpan) (e : Edited) (fault : Fault) → IsRelocation container portions e (Err fault) → fault.rule ≡ NoFile → ⊥
relocation_there Text portions e fault h rule = cc h
relocation_there (Segments regions) portions e fault (inl h) rule =
    let new : List ℕ = segments_text (packet_of e (segment_padded (least_of e))) None in among_there (moved_pictures portions regions (length new)) (parts_around regions portions new) fault h.1 rule
relocation_there (Segments regions) portions e fault (inr h) rule = divided_there regions portions e.new e.hints fault h.1 rule
relocation_there (Directories size tiff) portions e fault h rule =
    let packet : List ℕ = packet_of e (least_of e + padding) in
    last_there (lacks_room tiff) (tells tiff.layout (packet_place size tiff + length packet)) over_entries (over_offsets (packet_place size tiff + length packet)) fault (appended_parts size tiff packet)
    (λ x. cc) (λ x. cc) h rule

moved_there : (over fit patch : Bool) (f g : Fault) (inside : Plan) (container : Container) (portions : List FileSpan) (e : Edited) (fault : Fault) → (f.rule ≡ NoFile → ⊥) → (g.rule ≡ NoFile → ⊥)
    → OrRelocation (if over then Some (Err f) else (if fit then Some (Ok inside) else (if patch then Some (Err g) else None))) container portions e (Err fault) → fault.rule ≡ NoFile → ⊥
moved_there true fit patch f g inside container portions e fault not_f not_g h rule = not_f (let is : (let r : Result Plan Fault = Err fault in r) ≡ Err f = h in cc)
moved_there false true patch f g inside container portions e fault not_f not_g h rule = let bad : (let r : Result Plan Fault = Err fault in r) ≡ Ok inside = h in cc
moved_there false false true f g inside container portions e fault not_f not_g h rule = not_g (let is : (let r : Result Plan Fault = Err fault in r) ≡ Err g = h in cc)
moved_there false false false f g inside container portions e fault not_f not_g h rule = relocation_there container portions e fault h rule

pub planned_there : (kept : Kept) (joined patch : Bool) (e : Edited) (fault : Fault) → IsPlanned kept joined patch e (Err fault) → fault.rule ≡ NoFile → ⊥
planned_there kept joined patch e fault (inl h) rule = let bad : (let r : Result Plan Fault = Err fault in r) ≡ Ok (stays kept.container e.digest) = h.1 in cc
planned_there kept joined patch e fault (inr h) rule =
    moved_there _ (fits kept.payload joined (least_of e)) patch (over_packet (told (least_of e + padding))) (needs_relocation (told (least_of e)) (room_of kept.payload)) _ kept.container kept.portions e fault
    (λ x. cc) (λ x. cc) h.1 rule
