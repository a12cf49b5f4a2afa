use Rattle.jpeg_extended.proofs.OneText.{not_gap, not_over, one_length, one_over, one_place, one_text, over_or_gap}
use Rattle.jpeg_extended.proofs.laws.one_answer.Goals as goal

pub returns : goal.returns
returns c = record { text = one_text; full = one_length; over = one_over; place = one_place; not_over = not_over; not_gap = not_gap; over_or_gap = over_or_gap }
