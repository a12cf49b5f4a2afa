-- What is kept of a loaded file has its length, and what was asked for.
use Rattle.std.proofs.Common.{◌≡◌, ◌⊎◌, ◌∙◌, ℕ, ◌≤◌, List, [], length, Bool, true, false, Ok, Err, Some, None, inl, inr, sym, subst, ap, refl, if◌then◌else◌}
use Rattle.std.specs.Prelude.{nat_lt}
use Rattle.std.specs.declared.option.Option.{Option}
use Rattle.std.specs.declared.result.Result.{Result}
use Rattle.std.specs.Option.{unwrap_or}
use Rattle.std.proofs.lemmas.Bool.{ltb-false}
use Rattle.xmp_values.specs.declared.faults.Fault.{Fault}
use Rattle.xmp_files.specs.declared.kinds.Kind.{Kind}
use Rattle.xmp_files.specs.declared.kinds.Kind.TheVariants.{Jpeg, Tiff, BigTiff, Sidecar}
use Rattle.xmp_files.specs.declared.held.Need.{Need}
use Rattle.xmp_files.specs.Faults.{file_limit, over_limit, packet_limit, over_packet, not_built}
use Rattle.xmp_files.specs.Stages.{followed, Followed}
use Rattle.xmp_files.specs.Keeping.{Piece, Text, Kept, sidecar}
use Rattle.xmp_files.specs.Photographs.{IsPhotograph, IsCut}
use Rattle.xmp_files.specs.Images.{IsImage, IsWalked}
use Rattle.xmp_files.specs.Loading.{known, kind_of_file, limited, limited_by, IsKept, IsLoaded}
use Rattle.xmp_files.proofs.PacketLengths.{is_sidecar, sidecar_kept, limited_keeps, cut_no_text, walked_no_text}
use Rattle.xmp_files.proofs.WalkedImages.{IsImageKind, file_known}

-- FILE is a sidecar within the limit
pub record IsSidecarOf (need : Need) (bytes : List ℕ) (kept : Kept) : Type 0 where
  pub is : kept ≡ sidecar need bytes
  pub short : length bytes ≤ packet_limit

short_by : (over : Bool) (kept other : Kept) (f : Fault) → Ok kept ≡ (if over then Err f else Ok other) → over ≡ false
short_by true kept other f e = absurd (cc e)
short_by false kept other f e = refl

short_kept : (need : Need) (bytes : List ℕ) (by : Result Kind Fault) (kept : Kept) → Followed by (IsKept need bytes) (Ok kept) → kept.container ≡ Text → length bytes ≤ packet_limit
short_kept need bytes (Err fault) kept h text = absurd (cc h)
short_kept need bytes (Ok Jpeg) kept h text = absurd (cut_no_text need bytes h.0 kept h.1 h.2 text)
short_kept need bytes (Ok Tiff) kept h text = absurd (walked_no_text need bytes h.0 kept h.1 h.2 text)
short_kept need bytes (Ok BigTiff) kept h text = absurd (walked_no_text need bytes h.0 kept h.1 h.2 text)
short_kept need bytes (Ok Sidecar) kept h text =
    ltb-false packet_limit (length bytes) (short_by (nat_lt packet_limit (length bytes)) kept (sidecar need bytes) (over_packet (length bytes)) (h.2 ∙ ap (λ (r : Result Kept Fault). followed r limited) h.1))
short_kept need bytes (Ok kind) kept h text =
    let bad : Ok kept ≡ Err not_built = h.2 ∙ ap (λ (r : Result Kept Fault). followed r limited) h.1 in absurd (cc bad)

pub loaded_sidecar : (need : Need) (file : Option (List ℕ)) (kept : Kept) → IsLoaded need file (Ok kept) → kept.container ≡ Text → IsSidecarOf need (unwrap_or file []) kept
loaded_sidecar need file kept h text = record {
  is = is_sidecar need (unwrap_or file []) (kind_of_file file) kept h text;
  short = short_kept need (unwrap_or file []) (kind_of_file file) kept h text;
}

-- FILE is a JPEG file, whose payload is within the limit
pub record IsPhotographOf (need : Need) (bytes : List ℕ) (kept : Kept) : Type 0 where
  pub is : IsPhotograph need bytes kept
  pub short : (q : Piece) → kept.payload ≡ Some q → length q.bytes ≤ packet_limit

limited_short : (kept other : Kept) (payload : Option Piece) → Ok kept ≡ limited_by other payload → (q : Piece) → payload ≡ Some q → length q.bytes ≤ packet_limit
limited_short kept other None e q is = absurd (cc is)
limited_short kept other (Some p) e q is =
    let same : p ≡ q = cc is in
    subst (λ (x : Piece). length x.bytes ≤ packet_limit) same
    (ltb-false packet_limit (length p.bytes) (short_by (nat_lt packet_limit (length p.bytes)) kept other (over_packet (length p.bytes)) e))

cut_photograph : (need : Need) (bytes : List ℕ) (held : Result Kept Fault) (kept : Kept) → IsCut need bytes held → Ok kept ≡ followed held limited → IsPhotographOf need bytes kept
cut_photograph need bytes (Err fault) kept cut e = let bad : Ok kept ≡ Err fault = e in absurd (cc bad)
cut_photograph need bytes (Ok other) kept cut e =
    let same : kept ≡ other = limited_keeps kept other other.payload e in
    record {
      is = subst (IsPhotograph need bytes) (sym same) cut;
      short = λ q is. limited_short kept other other.payload e q (sym (ap (λ (k : Kept). k.payload) same) ∙ is);
    }

-- FILE is a TIFF or BigTIFF file, whose payload is within the limit
pub record IsImageOf (need : Need) (bytes : List ℕ) (kept : Kept) : Type 0 where
  pub is : IsImage need bytes kept
  pub kind : IsImageKind bytes
  pub short : (q : Piece) → kept.payload ≡ Some q → length q.bytes ≤ packet_limit

walked_image : (need : Need) (bytes : List ℕ) (held : Result Kept Fault) (kept : Kept) → IsImageKind bytes → IsWalked need bytes held → Ok kept ≡ followed held limited → IsImageOf need bytes kept
walked_image need bytes (Err fault) kept kind walked e = let bad : Ok kept ≡ Err fault = e in absurd (cc bad)
walked_image need bytes (Ok other) kept kind walked e =
    let same : kept ≡ other = limited_keeps kept other other.payload e in
    record {
      is = subst (IsImage need bytes) (sym same) walked;
      kind = kind;
      short = λ q is. limited_short kept other other.payload e q (sym (ap (λ (k : Kept). k.payload) same) ∙ is);
    }

-- what is kept of a loaded file is that of a sidecar, of a JPEG file, or of a TIFF file
abbrev pub LoadedAs : Need → List ℕ → Kept → Type 0
LoadedAs need bytes kept = IsSidecarOf need bytes kept ⊎ (IsPhotographOf need bytes kept ⊎ IsImageOf need bytes kept)

as_kind : (need : Need) (bytes : List ℕ) (by : Result Kind Fault) (kept : Kept) → ((kind : Kind) → by ≡ Ok kind → known bytes ≡ Ok kind) → Followed by (IsKept need bytes) (Ok kept) → LoadedAs need bytes kept
as_kind need bytes (Err fault) kept kind h = absurd (cc h)
as_kind need bytes (Ok Jpeg) kept kind h = inr (inl (cut_photograph need bytes h.0 kept h.1 h.2))
as_kind need bytes (Ok Tiff) kept kind h = inr (inr (walked_image need bytes h.0 kept (Tiff, tt, kind Tiff refl) h.1 h.2))
as_kind need bytes (Ok BigTiff) kept kind h = inr (inr (walked_image need bytes h.0 kept (BigTiff, tt, kind BigTiff refl) h.1 h.2))
as_kind need bytes (Ok Sidecar) kept kind h = inl (record {
  is = sidecar_kept need bytes kept h;
  short = ltb-false packet_limit (length bytes)
      (short_by (nat_lt packet_limit (length bytes)) kept (sidecar need bytes) (over_packet (length bytes)) (h.2 ∙ ap (λ (r : Result Kept Fault). followed r limited) h.1));
})
as_kind need bytes (Ok other) kept kind h =
    let bad : Ok kept ≡ Err not_built = h.2 ∙ ap (λ (r : Result Kept Fault). followed r limited) h.1 in absurd (cc bad)

pub loaded_as : (need : Need) (bytes : List ℕ) (kept : Kept) → IsLoaded need (Some bytes) (Ok kept) → LoadedAs need bytes kept
loaded_as need bytes kept h = as_kind need bytes (kind_of_file (Some bytes)) kept (file_known (Some bytes)) h

small_by : (need : Need) (bytes : List ℕ) (kept : Kept) (over : Bool) → nat_lt file_limit (length bytes) ≡ over
    → Followed (followed (if over then Err (over_limit (length bytes)) else Ok bytes) known) (IsKept need bytes) (Ok kept) → length bytes ≤ file_limit
small_by need bytes kept true e h = let bad : Ok kept ≡ Err (over_limit (length bytes)) = h in absurd (cc bad)
small_by need bytes kept false e h = ltb-false file_limit (length bytes) e

-- a loaded file is within the limit
pub loaded_small : (need : Need) (bytes : List ℕ) (kept : Kept) → IsLoaded need (Some bytes) (Ok kept) → length bytes ≤ file_limit
loaded_small need bytes kept h = small_by need bytes kept (nat_lt file_limit (length bytes)) refl h

-- the length of the file, and what was asked for
record Asks (need : Need) (bytes : List ℕ) (kept : Kept) : Type 0 where
  size : kept.size ≡ length bytes
  need_is : kept.need ≡ need

cut_asks : (need : Need) (bytes : List ℕ) (held : Result Kept Fault) (kept : Kept) → IsCut need bytes held → Ok kept ≡ followed held limited → Asks need bytes kept
cut_asks need bytes (Err fault) kept cut e = let bad : Ok kept ≡ Err fault = e in absurd (cc bad)
cut_asks need bytes (Ok other) kept cut e =
    let same : kept ≡ other = limited_keeps kept other other.payload e in
    record { size = ap (λ (k : Kept). k.size) (same ∙ cut.is); need_is = ap (λ (k : Kept). k.need) (same ∙ cut.is) }

walked_asks : (need : Need) (bytes : List ℕ) (held : Result Kept Fault) (kept : Kept) → IsWalked need bytes held → Ok kept ≡ followed held limited → Asks need bytes kept
walked_asks need bytes (Err fault) kept walked e = let bad : Ok kept ≡ Err fault = e in absurd (cc bad)
walked_asks need bytes (Ok other) kept walked e =
    let same : kept ≡ other = limited_keeps kept other other.payload e in
    record { size = ap (λ (k : Kept). k.size) (same ∙ walked.is); need_is = ap (λ (k : Kept). k.need) (same ∙ walked.is) }

asks : (need : Need) (bytes : List ℕ) (by : Result Kind Fault) (kept : Kept) → Followed by (IsKept need bytes) (Ok kept) → Asks need bytes kept
asks need bytes (Err fault) kept h = absurd (cc h)
asks need bytes (Ok Jpeg) kept h = cut_asks need bytes h.0 kept h.1 h.2
asks need bytes (Ok Tiff) kept h = walked_asks need bytes h.0 kept h.1 h.2
asks need bytes (Ok BigTiff) kept h = walked_asks need bytes h.0 kept h.1 h.2
asks need bytes (Ok Sidecar) kept h = let is = sidecar_kept need bytes kept h in record { size = ap (λ (k : Kept). k.size) is; need_is = ap (λ (k : Kept). k.need) is }
asks need bytes (Ok kind) kept h =
    let bad : Ok kept ≡ Err not_built = h.2 ∙ ap (λ (r : Result Kept Fault). followed r limited) h.1 in absurd (cc bad)

pub loaded_size : (need : Need) (file : Option (List ℕ)) (kept : Kept) → IsLoaded need file (Ok kept) → kept.size ≡ length (unwrap_or file [])
loaded_size need file kept h = (asks need (unwrap_or file []) (kind_of_file file) kept h).size

pub loaded_need : (need : Need) (file : Option (List ℕ)) (kept : Kept) → IsLoaded need file (Ok kept) → kept.need ≡ need
loaded_need need file kept h = (asks need (unwrap_or file []) (kind_of_file file) kept h).need_is
