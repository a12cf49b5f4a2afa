use Rattle.xml_grammar.proofs.SoundHints.{document_sound}
use Rattle.xml_grammar.proofs.laws.sound_document.Goals as goal

pub returns : goal.returns
returns c = document_sound
