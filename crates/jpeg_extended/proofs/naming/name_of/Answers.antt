use Rattle.std.proofs.Common.{◌∙◌, map, ap}
use Rattle.hex.specs.Hex.{encode_upper}
use Rattle.md5.specs.Md5.{md5}
use Rattle.xmp_values.specs.Digits.{capital}
use Rattle.jpeg_extended.proofs.Capitals.{capitals}
use Rattle.jpeg_extended.proofs.naming.name_of.Goals as goal

pub returns-in-Some : goal.returns-in-Some
returns-in-Some c =
    c.in-Some.ensures.1 ∙ ap (map capital) (c.as_bytes.ensures.value ∙ c.in_ok-digits.ensures ∙ ap encode_upper c.digest.ensures) ∙ capitals (md5 c.args.text.now)
