use Rattle.std.proofs.Common.{◌∙◌, ap, Ok}
use Rattle.std.specs.declared.result.Result.{Result}
use Rattle.xmp_values.specs.declared.faults.Fault.{Fault}
use Rattle.xmp_files.specs.declared.kinds.Kind.{Kind}
use Rattle.xmp_files.specs.declared.kinds.Kind.TheVariants.{Jpeg, BigTiff}
use Rattle.xmp_base.specs.Device.{bytes_of}
use Rattle.xmp_files.proofs.Loads.{known_kind, not_built_kind, unbuilt_end}
use Rattle.xmp_files.proofs.loading.load_container.Goals as goal

pub returns-in_default : goal.returns-in_default
returns-in_default g c = record {
  call = unbuilt_end c.args.need (g.D.Desk.state c.args.desk.now) c.args.name.now c.args.size (record { len = c.requires.len; whole = c.requires.told }) c.args.kind c.requires.kind
      c.not_built.result c.not_built.ensures (not_built_kind c.args.kind c.in_default.not-Sidecar c.in_default.not-Jpeg c.in_default.not-Tiff c.in_default.not-BigTiff);
}

pub load_photograph-requires-clause-kind : goal.load_photograph-requires-clause-kind
load_photograph-requires-clause-kind g c = λ files told. known_kind (bytes_of files c.args.name.now) Jpeg (c.requires.kind files told ∙ ap (λ (k : Kind). let r : Result Kind Fault = Ok k in r) c.in-Jpeg.is)

pub load_image-requires-in-BigTiff-clause-kind : goal.load_image-requires-in-BigTiff-clause-kind
load_image-requires-in-BigTiff-clause-kind g c = λ files told. (BigTiff, tt, c.requires.kind files told ∙ ap (λ (k : Kind). let r : Result Kind Fault = Ok k in r) c.in-BigTiff.is)
