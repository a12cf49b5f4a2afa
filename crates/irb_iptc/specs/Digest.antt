-- The stored digest of a list: block 1061, which Photoshop calls the MD5 of the IPTC data.
use Rattle.std.specs.Prelude.{◌≡◌, ℕ, ◌-◌, ◌==◌, List, Option, Some, None, OnSome, slice_get, if◌then◌else◌, take, drop}
use Rattle.std.specs.Option.{option_and_then}
use Rattle.std.specs.Borrow.{LendsSo, Fml, MutBor, Array, u8}
use Rattle.xmp_base.specs.declared.file_span.FileSpan.{FileSpan}
use Rattle.lent_bytes.specs.Lending.{replaced}
use Rattle.irb_iptc.specs.Listing.{Placed, Listing, Lists, of_id}

-- where a digest stands: 16 bytes of data
abbrev pub digest_of_block : Placed → Option FileSpan
digest_of_block b = if b.body.end - b.body.start == 16 then Some b.body else None

-- the first block 1061 counts, whatever others there are
abbrev pub digest_in : Listing → Option FileSpan
digest_in listing = option_and_then digest_of_block (slice_get (of_id 1061 listing.blocks) 0)

-- the bytes have a list
abbrev pub IsListed : List ℕ → Type 0
IsListed bytes = (listing : Listing) × Lists bytes 0 listing

-- the bytes of a range
abbrev pub bytes_in : List ℕ → FileSpan → List ℕ
bytes_in bytes s = take (s.end - s.start) (drop s.start bytes)

-- the bytes end with those of the digest replaced by the last ones that were written, and as they were where there is none
abbrev pub LendsDigest : MutBor (List ℕ) → Option (MutBor (List ℕ)) → Fml
LendsDigest bytes part = LendsSo (Array u8 0) (Array u8 0) bytes part
    (λ now written. OnSome part ((listing : Listing) → Lists bytes.now 0 listing → (s : FileSpan) → digest_in listing ≡ Some s
    → now ≡ replaced bytes.now s.start s.end written))
    (λ now. now ≡ bytes.now)
