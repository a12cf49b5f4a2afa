-- A sidecar that is the packet of a tree is read as that tree.
use Rattle.std.proofs.Common.{◌≡◌, ℕ, ◌≤◌, Bool, false, cond, List, length, Option, Some, None, Ok, Err, refl, ap, sym, subst, ◌∙◌, arith}
use Rattle.std.specs.Prelude.{nat_lt}
use Rattle.std.proofs.lemmas.Bool.{le-ltb}
use Rattle.std.specs.declared.result.Result.{Result}
use Rattle.xmp_values.specs.Characters.{is_blank}
use Rattle.xmp_values.specs.declared.faults.Fault.{Fault}
use Rattle.xmp_values.specs.declared.hints.Hint.{Hint}
use Rattle.xmp_values.specs.declared.rules.Rule.{Rule}
use Rattle.xmp_tree.specs.Parts.{Parts}
use Rattle.rdf_forms.specs.Meaning.{Meaning, meaning_of}
use Rattle.xmp_rdf.specs.Meanings.{unless, reading, reading_within}
use Rattle.xmp_write.specs.declared.forms.Form.{Form}
use Rattle.xmp_write.specs.WrittenPackets.{packet, canonical_packet}
use Rattle.xmp_write.specs.Prefixes.{prefixes}
use Rattle.round_trip.specs.Law.{MayWrite, TextMeans, PacketMeans, whole_form, text_hints}
use Rattle.round_trip.proofs.Meanings.{packet_reads_back}
use Rattle.xmp_files.specs.declared.kinds.Kind.{Kind}
use Rattle.xmp_files.specs.declared.kinds.Kind.TheVariants.{Sidecar}
use Rattle.xmp_files.specs.declared.held.Need.TheVariants.{Packet}
use Rattle.xmp_files.specs.declared.opening.Opened.{Opened}
use Rattle.xmp_files.specs.Faults.{file_limit, over_limit, packet_limit, over_packet}
use Rattle.xmp_files.specs.Kinds.{kind_of}
use Rattle.xmp_files.specs.Stages.{followed, Followed}
use Rattle.xmp_files.specs.Keeping.{Kept, sidecar}
use Rattle.xmp_files.specs.Loading.{known, kind_of_file, IsKept, IsLoaded}
use Rattle.xmp_files.specs.Meanings.{Means, Opens}
use Rattle.xmp_files.specs.Opening.{IsOpened, HoldsTree}
use Rattle.xmp_files.proofs.Loads.{known_as}

-- what the text means, as reading gives it
abbrev pub meant : (text : List ℕ) (declared : List Hint) (t : Parts) (note : Option (List ℕ)) → TextMeans text declared t note → Meaning
meant text declared t note h = meaning_of 100 h.root declared

pub means : (text : List ℕ) (declared : List Hint) (t : Parts) (note : Option (List ℕ)) (h : TextMeans text declared t note) → Means text (Ok (meant text declared t note h))
unfolding reading reading_within
means text declared t note h = (h.root, declared, h.document, ap (λ (o : Option (Rule × ℕ)). unless o (meant text declared t note h)) (h.unbroken 100 (omega arith)))

pub opens : (payload : List ℕ) (declared : List Hint) (t : Parts) (note : Option (List ℕ)) (h : PacketMeans payload declared t note) → Opens payload (Ok (meant payload declared t note h.means))
opens payload declared t note h =
    (Ok (meant payload declared t note h.means), subst (λ (x : List ℕ). Means x (Ok (meant payload declared t note h.means))) (sym h.text_is) (means payload declared t note h.means), refl)

pub holds_packet : (bytes : List ℕ) (declared : List Hint) (t : Parts) (note : Option (List ℕ)) → PacketMeans bytes declared t note → kind_of bytes ≡ Some Sidecar → length bytes ≤ packet_limit
    → HoldsTree (Some bytes) t
holds_packet bytes declared t note h kind short =
    let kept : Kept = sidecar Packet bytes in
    let meaning : Meaning = meant bytes declared t note h.means in
    let opened : Opened = record { meaning = meaning; joined = false } in
    let there : kind_of_file (Some bytes) ≡ Ok Sidecar =
    ap (λ (b : Bool). followed (cond b (Err (over_limit (length bytes))) (Ok bytes)) known) (le-ltb file_limit (length bytes) (omega (arith, short)))
    ∙ known_as bytes Sidecar kind refl in
    let within_limit : Ok kept ≡ cond (nat_lt packet_limit (length bytes)) (Err (over_packet (length bytes))) (Ok kept) =
    ap (λ (b : Bool). cond b (Err (over_packet (length bytes))) (Ok kept)) (sym (le-ltb packet_limit (length bytes) short)) in
    let is_loaded : IsLoaded Packet (Some bytes) (Ok kept) =
    subst (λ (x : Result Kind Fault). Followed x (IsKept Packet bytes) (Ok kept)) (sym there) (Ok kept, refl, within_limit) in
    let is_opened : IsOpened kept (Ok opened) = (Ok meaning, opens bytes declared t note h, refl) in
    (opened, (Ok kept, is_loaded, is_opened), h.means.tree_is 100 (omega arith))

sidecar_kind : (ps : List Hint) (t : Parts) (form : Form) (len : ℕ) → kind_of (packet ps t form len) ≡ Some Sidecar
unfolding packet is_blank
sidecar_kind ps t form len = refl

-- the law of a sidecar: what is written as the packet of a tree is read as the tree
pub sidecar_reads_back : (t : Parts) (hints : List Hint) (len : ℕ) → MayWrite t hints (whole_form t) → length (canonical_packet t hints (whole_form t) len) ≤ packet_limit
    → HoldsTree (Some (canonical_packet t hints (whole_form t) len)) t
sidecar_reads_back t hints len may short =
    holds_packet (canonical_packet t hints (whole_form t) len) (text_hints t hints (whole_form t)) t None (packet_reads_back t hints len may)
    (sidecar_kind (prefixes t hints (whole_form t)) t (whole_form t) len) short
