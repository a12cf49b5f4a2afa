use Rattle.xmp_paths.proofs.NameTests.{is_name-IsName, same_test}
use Rattle.xmp_paths.proofs.spelling.is_prefix.Goals as goal

pub returns : goal.returns
returns c =
    let test = is_name-IsName c.args.bytes.now in
    same_test _ _ (λ h. test.0 (c.is_name.ensures.0 h)) (λ h. c.is_name.ensures.1 (test.1 h))
