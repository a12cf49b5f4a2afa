use Rattle.std.proofs.Common.{◌≡◌, ◌∙◌, ◌++◌, List, Result, ap, subst}
use Rattle.xmp_values.specs.Stops.{Makes, place_of}
use Rattle.xml_grammar.specs.Scopes.{Binding, bindings_of}
use Rattle.xmp_xml.specs.declared.builder.Builder.{Builder}
use Rattle.xmp_xml.specs.Building.{within, bound_of}
use Rattle.xmp_xml.specs.Document.{Fault}
use Rattle.xmp_xml.specs.Tagging.{inside_of, tagged, tagged_with}
use Rattle.xmp_xml.specs.Steps.{tagged_step, start_step}
use Rattle.xmp_xml.proofs.steps.start_step.Goals as goal

pub returns : goal.returns
returns c =
    let s = c.args.builder.now in
    let tag = c.args.tag in
    let around : c.scope_tag.new.builder ≡ within s (bound_of s.outer s.scope) = c.in_ok-scope_tag.ensures in
    let scope : c.scope_tag.new.builder.scope ≡ bound_of s.outer s.scope = ap (λ (b : Builder). b.scope) around in
    let inside : c.read_tag.new.scope ≡ inside_of s tag = c.in_ok-tagged.ensures.scope ∙ ap (λ (bs : List Binding). bindings_of tag.attributes ++ bs) scope in
    let read : c.in_ok-tagged.tagged ≡ tagged s c.args.at tag = c.in_ok-tagged.ensures.tag ∙ ap (λ (bs : List Binding). tagged_with (bindings_of tag.attributes ++ bs) c.args.at tag) scope in
    let same : tagged_step (within c.scope_tag.new.builder c.read_tag.new.scope) c.args.at c.in_ok-tagged.tagged ≡ start_step s c.args.at tag =
    λ i. tagged_step (within (around i) (inside i)) c.args.at (read i) in
    subst (λ (r : Result Builder Fault). Makes place_of c.tagged_step.result c.tagged_step.new.builder r) same c.tagged_step.ensures
