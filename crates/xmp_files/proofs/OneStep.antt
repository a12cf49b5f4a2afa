-- What is kept of a file, and what it means, have at most one step each.
use Rattle.std.proofs.Common.{◌≡◌, ◌∙◌, ℕ, List, [], length, Ok, Err, Some, None, sym, ap, subst}
use Rattle.std.specs.declared.option.Option.{Option}
use Rattle.std.specs.declared.result.Result.{Result}
use Rattle.std.specs.Option.{unwrap_or}
use Rattle.xmp_values.specs.declared.faults.Fault.{Fault}
use Rattle.xmp_values.specs.declared.faults.Part.TheVariants.{File}
use Rattle.xmp_values.specs.Stops.{fault_at}
use Rattle.xmp_values.specs.declared.rules.Rule.{Rule}
use Rattle.xmp_values.specs.declared.rules.Rule.TheVariants.{TwoPackets}
use Rattle.xmp_rdf.specs.declared.meanings.Meaning.{Meaning}
use Rattle.xmp_packets.specs.Packets.{packet_text}
use Rattle.xmp_files.specs.declared.kinds.Kind.{Kind}
use Rattle.xmp_files.specs.declared.kinds.Kind.TheVariants.{Jpeg, Tiff, BigTiff, Sidecar}
use Rattle.xmp_files.specs.declared.held.Need.{Need}
use Rattle.xmp_files.specs.declared.held.Need.TheVariants.{Packet}
use Rattle.xmp_files.specs.declared.opening.Opened.{Opened}
use Rattle.xmp_files.specs.Stages.{followed, Followed}
use Rattle.xmp_files.specs.Keeping.{Piece, Kept, image}
use Rattle.xmp_files.specs.Photographs.{IsCut}
use Rattle.tiff_dirs.specs.Tiff.{Tiff as Dirs}
use Rattle.tiff_dirs.specs.declared.stop.TiffStop.{TiffStop}
use Rattle.tiff_dirs.specs.declared.stop.TiffStop.TheVariants as stops
use Rattle.tiff_dirs.proofs.Unique.{tiff_same, fault_same as walk_fault_same, list_or_fault as walk_or_fault}
use Rattle.xmp_files.specs.Images.{IsWalked, tiff_packet, image_fault}
use Rattle.jpeg_regions.proofs.Faults.{fault_same, list_or_fault}
use Rattle.xmp_files.specs.Loading.{kind_of_file, limited, IsContained, IsKept, IsLoaded}
use Rattle.xmp_files.specs.declared.held.Extended.{Extended}
use Rattle.xmp_files.specs.declared.held.Extended.TheVariants as extended
use Rattle.xmp_files.specs.Meanings.{Opens, OpensMain, in_main}
use Rattle.xmp_files.specs.Opening.{IsJoinedTo, IsJoined, IsOpened, Holds, merged_to}
use Rattle.xmp_files.proofs.OneMeaning.{one_meaning}
use Rattle.xmp_files.proofs.OnePhotograph.{one_photograph}

-- a relation holds of at most one step
abbrev One : {B : Type 0} → (Result B Fault → Type 0) → Type 0
One {B} IsStep = (a b : Result B Fault) → IsStep a → IsStep b → a ≡ b

one_followed : {A B : Type 0} (first : Result A Fault) (Next : A → Result B Fault → Type 0) → ((x : A) → One (Next x)) → One (Followed first Next)
one_followed (Ok x) Next one = one x
one_followed (Err fault) Next one = λ a b p q. p ∙ sym q

one_after : {A B : Type 0} (first other : Result A Fault) (Next : A → Result B Fault → Type 0) → ((x : A) → One (Next x)) → first ≡ other
    → (a b : Result B Fault) → Followed first Next a → Followed other Next b → a ≡ b
one_after first other Next one same a b p q = one_followed first Next one a b p (subst (λ f. Followed f Next b) (sym same) q)

one_payload : (payload : List ℕ) → One (Opens payload)
one_payload payload a b p q = p.2 ∙ ap in_main (one_meaning (packet_text payload) p.0 q.0 p.1 q.1) ∙ sym q.2

one_main : (payload : Option Piece) → One (OpensMain payload)
one_main None = λ a b p q. p ∙ sym q
one_main (Some piece) = one_payload piece.bytes

one_joined_to : (extended : Option Extended) (meaning : Meaning) → One (IsJoinedTo extended meaning)
one_joined_to None meaning = λ a b p q. p ∙ sym q
one_joined_to (Some (extended.TooLong full)) meaning = λ a b p q. p ∙ sym q
one_joined_to (Some (extended.Gap place)) meaning = λ a b p q. p ∙ sym q
one_joined_to (Some (extended.Joined text)) meaning = λ a b p q. p.2 ∙ ap (merged_to meaning) (one_meaning text p.0 q.0 p.1 q.1) ∙ sym q.2

one_joined : (kept : Kept) (meaning : Meaning) → One (IsJoined kept meaning)
one_joined kept meaning = one_joined_to kept.extended meaning

pub one_opened : (kept : Kept) (a b : Result Opened Fault) → IsOpened kept a → IsOpened kept b → a ≡ b
one_opened kept a b p q = one_after p.0 q.0 (IsJoined kept) (one_joined kept) (one_main kept.payload p.0 q.0 p.1 q.1) a b p.2 q.2

one_cut : (need : Need) (bytes : List ℕ) → One (IsCut need bytes)
one_cut need bytes (Ok k) (Ok l) p q = ap (λ (x : Kept). let r : Result Kept Fault = Ok x in r) (one_photograph need bytes k l p q)
one_cut need bytes (Ok k) (Err f) p q = absurd (list_or_fault bytes p.regions q.0 q.1 p.jpeg q.2)
one_cut need bytes (Err f) (Ok k) p q = absurd (list_or_fault bytes q.regions p.0 p.1 q.jpeg p.2)
one_cut need bytes (Err f) (Err g) p q =
    let same = fault_same bytes p.0 q.0 p.1 q.1 p.2 q.2 in
    ap (λ (x : Fault). let r : Result Kept Fault = Err x in r)
    (p.3 ∙ ap (λ (rule : Rule). fault_at rule File p.1) same.0 ∙ ap (λ (place : ℕ). fault_at q.0 File place) same.1 ∙ sym q.3)

-- a stop of a walk as a fault
abbrev fault_as : TiffStop → Fault
fault_as (stops.Fault rule place x y) = image_fault rule place x y
fault_as stops.Memory = image_fault TwoPackets 0 0 0

one_walked : (need : Need) (bytes : List ℕ) → One (IsWalked need bytes)
one_walked need bytes (Ok k) (Ok l) p q =
    let same : p.tiff ≡ q.tiff = tiff_same bytes p.tiff q.tiff p.walked q.walked in
    ap (λ (x : Kept). let r : Result Kept Fault = Ok x in r) (p.is ∙ ap (λ (t : Dirs). image need (length bytes) t (tiff_packet bytes t)) same ∙ sym q.is)
one_walked need bytes (Ok k) (Err f) p q = absurd (walk_or_fault bytes p.tiff (stops.Fault q.0 q.1 q.2 q.3) p.walked q.4)
one_walked need bytes (Err f) (Ok k) p q = absurd (walk_or_fault bytes q.tiff (stops.Fault p.0 p.1 p.2 p.3) q.walked p.4)
one_walked need bytes (Err f) (Err g) p q =
    let same : stops.Fault p.0 p.1 p.2 p.3 ≡ stops.Fault q.0 q.1 q.2 q.3 = walk_fault_same bytes (stops.Fault p.0 p.1 p.2 p.3) (stops.Fault q.0 q.1 q.2 q.3) p.4 q.4 in
    ap (λ (x : Fault). let r : Result Kept Fault = Err x in r) (p.5 ∙ ap fault_as same ∙ sym q.5)

one_contained : (need : Need) (kind : Kind) (bytes : List ℕ) → One (IsContained need kind bytes)
one_contained need Sidecar bytes = λ a b p q. p ∙ sym q
one_contained need Jpeg bytes = one_cut need bytes
one_contained need Tiff bytes = one_walked need bytes
one_contained need BigTiff bytes = one_walked need bytes
one_contained need other bytes = λ a b p q. p ∙ sym q

one_kept : (need : Need) (bytes : List ℕ) (kind : Kind) → One (IsKept need bytes kind)
one_kept need bytes kind a b p q = p.2 ∙ ap (λ (h : Result Kept Fault). followed h limited) (one_contained need kind bytes p.0 q.0 p.1 q.1) ∙ sym q.2

pub one_loaded : (need : Need) (file : Option (List ℕ)) (a b : Result Kept Fault) → IsLoaded need file a → IsLoaded need file b → a ≡ b
one_loaded need file = one_followed (kind_of_file file) (IsKept need (unwrap_or file [])) (one_kept need (unwrap_or file []))

pub one_held : (file : Option (List ℕ)) (a b : Result Opened Fault) → Holds file a → Holds file b → a ≡ b
one_held file a b p q = one_after p.0 q.0 IsOpened one_opened (one_loaded Packet file p.0 q.0 p.1 q.1) a b p.2 q.2
