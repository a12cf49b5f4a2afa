use Rattle.std.proofs.Common.{◌≡◌, drop}
use Rattle.tiff_dirs.specs.Pictures.{first_of_tag}
use Rattle.tiff_dirs.specs.Decoding.{entries_of}
use Rattle.tiff_dirs.proofs.decoding.first_of_tag.Given as goal

-- what is sought in the rest is what is sought in the whole
abbrev pub invariant-loop-k : goal.invariant-loop-k
invariant-loop-k l = first_of_tag l.tag (drop l.k (entries_of l.entries)) ≡ first_of_tag l.tag (entries_of l.entries)
