use Rattle.std.proofs.Common.{◌∙◌, sym, subst}
use Rattle.memchr.specs.Find.{FindsNeedle}
use Rattle.xml_tokenizer.proofs.Found.{finds_same, occurs_boundary, cut_of, cut_stands, sought_nowhere, sought_stuck, sought_found}
use Rattle.xml_tokenizer.proofs.searches.up_to.Goals as goal

pub returns-in_default : goal.returns-in_default
returns-in_default c =
    let f = finds_same c.as_bytes.result.now c.as_bytes-2.result.now c.args.text.now c.args.word.now c.find.result c.as_bytes.ensures.value c.as_bytes-2.ensures.value c.find.ensures in
    sought_nowhere c.args.word.now c.args.text.now c.utf8.text c.requires.ascii c.requires.some (subst (FindsNeedle c.args.text.now c.args.word.now 0) c.in_default.is f)

pub split_at-requires : goal.split_at-requires
split_at-requires c =
    let f = subst (FindsNeedle c.args.text.now c.args.word.now 0) c.in-Some.is (finds_same c.as_bytes.result.now c.as_bytes-2.result.now c.args.text.now c.args.word.now c.find.result c.as_bytes.ensures.value c.as_bytes-2.ensures.value c.find.ensures) in
    occurs_boundary c.args.text.now c.args.word.now c.in-Some.at c.requires.ascii c.requires.some f.1

pub returns-then-not-are_chars : goal.returns-then-not-are_chars
returns-then-not-are_chars c =
    let f = subst (FindsNeedle c.args.text.now c.args.word.now 0) c.in-Some.is (finds_same c.as_bytes.result.now c.as_bytes-2.result.now c.args.text.now c.args.word.now c.find.result c.as_bytes.ensures.value c.as_bytes-2.ensures.value c.find.ensures) in
    let k = cut_of c.args.word.now c.args.text.now c.split_at.result.0.now c.split_at.result.1.now c.in-Some.at c.utf8.text c.requires.ascii c.requires.some f.0 f.1 c.split_at.ensures.front c.split_at.ensures.back in
    sought_stuck c.args.word.now c.args.text.now c.split_at.result.0.now c.split_at.result.1.now _ c.utf8.text k.utf8 c.requires.ascii c.requires.some k.parts k.first (sym c.are_chars.ensures ∙ c.if-not-are_chars.true)

pub returns-in-Some-after : goal.returns-in-Some-after
returns-in-Some-after c =
    let f = subst (FindsNeedle c.args.text.now c.args.word.now 0) c.in-Some.is (finds_same c.as_bytes.result.now c.as_bytes-2.result.now c.args.text.now c.args.word.now c.find.result c.as_bytes.ensures.value c.as_bytes-2.ensures.value c.find.ensures) in
    let k = cut_of c.args.word.now c.args.text.now c.split_at.result.0.now c.split_at.result.1.now c.in-Some.at c.utf8.text c.requires.ascii c.requires.some f.0 f.1 c.split_at.ensures.front c.split_at.ensures.back in
    sought_found c.args.word.now c.args.text.now c.split_at.result.0.now c.split_at.result.1.now _ _ c.utf8.text k.utf8 c.requires.ascii c.requires.some k.parts k.first (sym c.are_chars.ensures ∙ c.if-not-are_chars.false) c.in-Some-after.ensures

pub returns-in-None : goal.returns-in-None
returns-in-None c =
    let f = subst (FindsNeedle c.args.text.now c.args.word.now 0) c.in-Some.is (finds_same c.as_bytes.result.now c.as_bytes-2.result.now c.args.text.now c.args.word.now c.find.result c.as_bytes.ensures.value c.as_bytes-2.ensures.value c.find.ensures) in
    let k = cut_of c.args.word.now c.args.text.now c.split_at.result.0.now c.split_at.result.1.now c.in-Some.at c.utf8.text c.requires.ascii c.requires.some f.0 f.1 c.split_at.ensures.front c.split_at.ensures.back in
    absurd (cut_stands c.args.word.now c.args.text.now c.split_at.result.0.now c.split_at.result.1.now c.requires.ascii k c.in-None.ensures)
