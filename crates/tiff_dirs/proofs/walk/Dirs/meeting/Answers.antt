use Rattle.std.proofs.Common.{◌≡◌, ◌∙◌, sym, subst, ap, arith, None}
use Rattle.std.specs.declared.option.Option.{Option}
use Rattle.std.specs.Option.{option_map}
use Rattle.xmp_base.specs.declared.file_span.FileSpan.{FileSpan}
use Rattle.tiff_dirs.specs.Directories.{span}
use Rattle.tiff_dirs.specs.Overlaps.{others}
use Rattle.tiff_dirs.specs.Nearest.{Best, MeetingAnswer, closest}
use Rattle.tiff_dirs.proofs.Nearest.{own_none, own_stands, clear_none, whole, best_of, answer}
use Rattle.tiff_dirs.proofs.walk.Dirs.meeting.Goals as goal

pub returns-then-directories-eq0 : goal.returns-then-directories-eq0
returns-then-directories-eq0 c = clear_none c.args.tag c.args.self.now (own_none c.args.self.now.layout c.args.tag c.args.self.now.dirs (omega arith))

pub closest_value-best-requires-clause-within : goal.closest_value-best-requires-clause-within
closest_value-best-requires-clause-within c =
    let stands = own_stands c.args.self.now.layout c.args.tag c.args.self.now.dirs c.in-Some.own (sym c.own.ensures ∙ c.in-Some.is) in
    let first = c.place_of-first.ensures in
    omega (arith, stands, first)

pub overflow_add-first : goal.overflow_add-first
overflow_add-first c =
    let stands = own_stands c.args.self.now.layout c.args.tag c.args.self.now.dirs c.in-Some.own (sym c.own.ensures ∙ c.in-Some.is) in
    let first = c.place_of-first.ensures in
    let count = c.entries-count.ensures in
    omega (arith, stands, first, count)

pub returns-in-Some-best : goal.returns-in-Some-best
returns-in-Some-best c =
    let t = c.args.self.now in
    let mine = c.in-Some.own in
    let best = c.closest_picture-best.result in
    let all : best ≡ closest mine None (others c.args.tag t) =
    whole mine t.layout c.args.tag t.dirs t.pictures c.closer-best.result c.closer-best-2.result c.closest_value-best.result c.closest_value-best-2.result c.closest_directory-best.result best
    (span 0 c.layout.result.header) c.dir_span.result c.place_of-first.result c.entries-count.result (omega arith) (ap (λ l. span 0 l.header) c.layout.ensures.is) c.closer-best.ensures
    c.dir_span.ensures c.closer-best-2.ensures c.place_of-first.ensures c.closest_value-best.ensures c.entries-count.ensures c.closest_value-best-2.ensures c.closest_directory-best.ensures
    c.closest_picture-best.ensures in
    let good : Best mine (others c.args.tag t) best = subst (Best mine (others c.args.tag t)) (sym all) (best_of mine (others c.args.tag t)) in
    subst (λ (o : Option FileSpan). MeetingAnswer c.args.tag t (option_map (λ other. (mine, other)) o)) c.in-Some-best.is
    (answer c.args.tag t mine best (sym c.own.ensures ∙ c.in-Some.is) good)

pub returns-in-None : goal.returns-in-None
returns-in-None c =
    let t = c.args.self.now in
    let mine = c.in-Some.own in
    let best = c.closest_picture-best.result in
    let all : best ≡ closest mine None (others c.args.tag t) =
    whole mine t.layout c.args.tag t.dirs t.pictures c.closer-best.result c.closer-best-2.result c.closest_value-best.result c.closest_value-best-2.result c.closest_directory-best.result best
    (span 0 c.layout.result.header) c.dir_span.result c.place_of-first.result c.entries-count.result (omega arith) (ap (λ l. span 0 l.header) c.layout.ensures.is) c.closer-best.ensures
    c.dir_span.ensures c.closer-best-2.ensures c.place_of-first.ensures c.closest_value-best.ensures c.entries-count.ensures c.closest_value-best-2.ensures c.closest_directory-best.ensures
    c.closest_picture-best.ensures in
    let good : Best mine (others c.args.tag t) best = subst (Best mine (others c.args.tag t)) (sym all) (best_of mine (others c.args.tag t)) in
    subst (λ (o : Option FileSpan). MeetingAnswer c.args.tag t (option_map (λ other. (mine, other)) o)) c.in-None.is
    (answer c.args.tag t mine best (sym c.own.ensures ∙ c.in-Some.is) good)
