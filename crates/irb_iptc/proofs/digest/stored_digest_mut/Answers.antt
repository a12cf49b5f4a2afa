use Rattle.std.proofs.Common.{◌≡◌, Some, refl, sym, ap, ◌∙◌}
use Rattle.std.specs.Option.{option_map}
use Rattle.xmp_base.specs.declared.file_span.FileSpan.{FileSpan}
use Rattle.irb_iptc.specs.Listing.{in_memory}
use Rattle.irb_iptc.specs.Digest.{bytes_in, digest_in}
use Rattle.irb_iptc.proofs.Digests.{told, sixteen_replaced, sixteen_of}
use Rattle.irb_iptc.proofs.digest.stored_digest_mut.Goals as goal

pub returns : goal.returns
returns c =
    let bytes = c.args.bytes.now in
    let span = c.in_ok-span.span in (
      (
        refl,
        (λ w listing l s e.
            let t = told (Some s) span (c.in_ok-span.ensures.is listing l ∙ ap (option_map in_memory) e) in
            let same : t.0 ≡ s = cc t.1 in
            sixteen_replaced bytes w span.start span.end s.start s.end (t.2 ∙ ap (λ (x : FileSpan). x.start) same) (t.3 ∙ ap (λ (x : FileSpan). x.end) same) c.in_ok-span.ensures.within.0),
        refl,
      ),
      record {
        writes_back = tt;
        value = λ listing l.
            let t = told (digest_in listing) span (c.in_ok-span.ensures.is listing l) in
            ap Some (c.array_at_mut.ensures.value ∙ sixteen_of bytes span.start span.end t.0.start t.0.end t.2 t.3 c.in_ok-span.ensures.within.0)
            ∙ sym (ap (option_map (bytes_in bytes)) t.1);
      },
    )
