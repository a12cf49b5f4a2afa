-- What a payload holds as a packet, and whether it may be written again in its place.
use Rattle.std.specs.Prelude.{ℕ, ◌-◌, Bool, ◌&&◌, ◌||◌, ◌==◌, nat_eq, codes, List, length, take}
use Rattle.std.specs.List.{suffix_len, starts_with, ends_with}
use Rattle.xmp_values.specs.Characters.{is_blank}

-- bytes without those at their end that pass
abbrev pub without_end : (ℕ → Bool) → List ℕ → List ℕ
without_end passes bytes = take (length bytes - suffix_len passes bytes) bytes

-- A payload's text is the payload without the zero bytes at its end: a reading of this project's own.
abbrev pub packet_text : List ℕ → List ℕ
packet_text = without_end (λ byte. byte == 0)

-- A text begins with a packet's header and ends, white space aside, with the trailer of one that may be written
-- (ISO 16684-1, 7.3.2), in either quote.
abbrev pub is_packet_for_writing : List ℕ → Bool
is_packet_for_writing text =
    starts_with nat_eq text (codes "<?xpacket begin=")
    && (ends_with nat_eq (without_end is_blank text) (codes "<?xpacket end=\"w\"?>") || ends_with nat_eq (without_end is_blank text) (codes "<?xpacket end='w'?>"))

abbrev pub is_writable : List ℕ → Bool
is_writable payload = is_packet_for_writing (packet_text payload)
