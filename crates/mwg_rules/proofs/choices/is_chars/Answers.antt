use Rattle.mwg_rules.proofs.Chars.{is_chars-IsCharText}
use Rattle.mwg_rules.proofs.Items.{same_test}
use Rattle.mwg_rules.proofs.choices.is_chars.Goals as goal

pub returns : goal.returns
returns c =
    let test = is_chars-IsCharText c.args.bytes.now in
    same_test _ _ (λ h. test.0 (c.is_char_text.ensures.0 h)) (λ h. c.is_char_text.ensures.1 (test.1 h))
