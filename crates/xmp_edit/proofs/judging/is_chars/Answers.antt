use Rattle.xmp_paths.proofs.NameTests.{same_test}
use Rattle.xmp_edit.proofs.Judged.{is_chars-IsCharText}
use Rattle.xmp_edit.proofs.judging.is_chars.Goals as goal

pub returns : goal.returns
returns c =
    let test = is_chars-IsCharText c.args.bytes.now in
    same_test _ _ (λ h. test.0 (c.is_char_text.ensures.0 h)) (λ h. c.is_char_text.ensures.1 (test.1 h))
