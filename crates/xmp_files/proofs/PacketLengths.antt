-- The packet that a plan has is the new file.
use Rattle.std.proofs.Common.{◌≡◌, ℕ, ◌+◌, ◌-◌, ◌≤◌, Bool, true, false, List, ◌++◌, length, Some, None, Ok, Err, refl, arith, ap, sym, ◌∙◌, length-append, if◌then◌else◌}
use Rattle.std.specs.Prelude.{nat_lt}
use Rattle.std.specs.declared.option.Option.{Option}
use Rattle.std.specs.declared.result.Result.{Result}
use Rattle.std.proofs.lemmas.List.{append-nil, drop_all}
use Rattle.xmp_values.specs.declared.faults.Fault.{Fault}
use Rattle.xmp_values.specs.declared.hints.Hint.{Hint}
use Rattle.xmp_tree.specs.Parts.{Parts}
use Rattle.xmp_write.specs.declared.forms.Form.{Form}
use Rattle.xmp_write.specs.Text.{written_text}
use Rattle.xmp_write.specs.WrittenPackets.{header, trailer, pad, packet, least_len}
use Rattle.xmp_write.proofs.PutPackets.{length-pad}
use Rattle.xmp_base.specs.Device.{put_at}
use Rattle.xmp_files.specs.declared.kinds.Kind.{Kind}
use Rattle.xmp_files.specs.declared.kinds.Kind.TheVariants.{Jpeg, Tiff, BigTiff, Sidecar}
use Rattle.xmp_files.specs.declared.held.Need.{Need}
use Rattle.xmp_files.specs.Faults.{packet_limit, over_packet, not_built}
use Rattle.xmp_files.specs.Stages.{followed, Followed}
use Rattle.xmp_files.specs.Keeping.{Piece, Text, Segments, Directories, Kept, sidecar}
use Rattle.xmp_files.specs.Photographs.{IsCut}
use Rattle.xmp_files.specs.Images.{IsWalked}
use Rattle.xmp_files.specs.Loading.{limited, limited_by, IsKept}

-- a packet has the length that is asked for, where that is at least its least one
pub length-packet : (ps : List Hint) (t : Parts) (form : Form) (len : ℕ) → least_len ps t form ≤ len → length (packet ps t form len) ≡ len
unfolding packet
length-packet ps t form len least =
    let many : ℕ = len - least_len ps t form in
    let text : List ℕ = written_text ps t form in
    let long = length-append (header ++ text ++ pad many) trailer in
    let after = length-append (header ++ text) (pad many) in
    let end = length-append header text in
    let front : length header ≡ 54 = refl in
    let back : length trailer ≡ 19 = refl in
    omega (arith, long, after, end, front, back, length-pad many)

kept_by : (over : Bool) (kept other : Kept) (f : Fault) → Ok kept ≡ (if over then Err f else Ok other) → kept ≡ other
kept_by true kept other f e = absurd (cc e)
kept_by false kept other f e = cc e

pub limited_keeps : (kept other : Kept) (payload : Option Piece) → Ok kept ≡ limited_by other payload → kept ≡ other
limited_keeps kept other None e = cc e
limited_keeps kept other (Some piece) e = kept_by (nat_lt packet_limit (length piece.bytes)) kept other (over_packet (length piece.bytes)) e

-- a JPEG file is no text
pub cut_no_text : (need : Need) (bytes : List ℕ) (held : Result Kept Fault) (kept : Kept) → IsCut need bytes held → Ok kept ≡ followed held limited → kept.container ≡ Text → ⊥
cut_no_text need bytes (Err fault) kept cut e text = let bad : Ok kept ≡ Err fault = e in cc bad
cut_no_text need bytes (Ok other) kept cut e text =
    let bad : Segments cut.regions ≡ Text = sym (ap (λ (k : Kept). k.container) (limited_keeps kept other other.payload e ∙ cut.is)) ∙ text in cc bad

-- nor is a TIFF file
pub walked_no_text : (need : Need) (bytes : List ℕ) (held : Result Kept Fault) (kept : Kept) → IsWalked need bytes held → Ok kept ≡ followed held limited → kept.container ≡ Text → ⊥
walked_no_text need bytes (Err fault) kept walked e text = let bad : Ok kept ≡ Err fault = e in cc bad
walked_no_text need bytes (Ok other) kept walked e text =
    let bad : Directories (length bytes) walked.tiff ≡ Text = sym (ap (λ (k : Kept). k.container) (limited_keeps kept other other.payload e ∙ walked.is)) ∙ text in cc bad

-- what is kept of a sidecar is its packet
pub sidecar_kept : (need : Need) (bytes : List ℕ) (kept : Kept) → IsKept need bytes Sidecar (Ok kept) → kept ≡ sidecar need bytes
sidecar_kept need bytes kept h =
    kept_by (nat_lt packet_limit (length bytes)) kept (sidecar need bytes) (over_packet (length bytes)) (h.2 ∙ ap (λ (r : Result Kept Fault). followed r limited) h.1)

-- what is kept of a text is its packet
pub is_sidecar : (need : Need) (bytes : List ℕ) (by : Result Kind Fault) (kept : Kept) → Followed by (IsKept need bytes) (Ok kept) → kept.container ≡ Text → kept ≡ sidecar need bytes
is_sidecar need bytes (Err fault) kept h text = absurd (cc h)
is_sidecar need bytes (Ok Jpeg) kept h text = absurd (cut_no_text need bytes h.0 kept h.1 h.2 text)
is_sidecar need bytes (Ok Tiff) kept h text = absurd (walked_no_text need bytes h.0 kept h.1 h.2 text)
is_sidecar need bytes (Ok BigTiff) kept h text = absurd (walked_no_text need bytes h.0 kept h.1 h.2 text)
is_sidecar need bytes (Ok Sidecar) kept h text =
    kept_by (nat_lt packet_limit (length bytes)) kept (sidecar need bytes) (over_packet (length bytes)) (h.2 ∙ ap (λ (r : Result Kept Fault). followed r limited) h.1)
is_sidecar need bytes (Ok kind) kept h text =
    let bad : Ok kept ≡ Err not_built = h.2 ∙ ap (λ (r : Result Kept Fault). followed r limited) h.1 in absurd (cc bad)

-- a packet as long as the file, over it
pub over_all : (old new : List ℕ) → length new ≡ length old → put_at old 0 new ≡ new
over_all old new same = ap (λ (l : List ℕ). new ++ l) (drop_all (0 + length new) old (omega (arith, same))) ∙ append-nil new
