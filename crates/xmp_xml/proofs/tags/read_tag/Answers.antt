use Rattle.std.proofs.Common.{◌≡◌, ◌++◌, ◌||◌, ◌∙◌, List, length, map, ap}
use Rattle.std.specs.List.{list_any, filter_map}
use Rattle.xml_grammar.specs.Scopes.{Binding, bindings_of, plain_attributes, expanded, is_unbound, is_misbound}
use Rattle.xml_grammar.specs.Nesting.{has_twice}
use Rattle.xml_grammar.specs.Trees.{hint_of}
use Rattle.xmp_xml.specs.declared.tags.Parts.{Parts}
use Rattle.xmp_xml.specs.Tagging.{same_binding, same_attribute, lacks_one, frame_in}
use Rattle.xmp_xml.proofs.tags.read_tag.Goals as goal

pub returns-clause-tag : goal.returns-clause-tag
returns-clause-tag c =
    let tag = c.args.tag in
    let own : c.in_ok-declared.field-0.declared ≡ bindings_of tag.attributes = ap (λ (p : Parts). p.declared) c.in_ok-declared.ensures in
    let plain : c.in_ok-declared.field-0.plain ≡ plain_attributes tag.attributes = ap (λ (p : Parts). p.plain) c.in_ok-declared.ensures in
    let inside : c.enter.new.self ≡ bindings_of tag.attributes ++ c.args.scope.now = c.in_ok-again.ensures.scope ∙ ap (λ (bs : List Binding). bs ++ c.args.scope.now) own in
    let count : c.len-count.result ≡ length (bindings_of tag.attributes) = c.len-count.ensures ∙ ap length own in
    let hints = c.in_ok-hints.ensures ∙ ap (filter_map hint_of) own in
    let misbound = c.has_misbound-misbound.ensures ∙ ap (list_any is_misbound) own in
    let first : c.as_slice.result.now ≡ plain_attributes tag.attributes = c.as_slice.ensures ∙ plain in
    let second : c.as_slice-2.result.now ≡ plain_attributes tag.attributes = c.as_slice-2.ensures ∙ plain in
    let unbound = c.is_unbound-unbound.ensures ∙ (λ i. is_unbound (inside i) tag.name.prefix || list_any (lacks_one (inside i)) (first i)) in
    let twice = c.in_ok-twice.ensures ∙ (λ i. (c.in_ok-again.ensures.twice ∙ ap (has_twice same_binding) own) i || has_twice same_attribute (map (expanded (inside i)) (second i))) in
    let frame = c.in_ok-frame.ensures ∙ (λ i. frame_in (inside i) c.args.at tag.name (plain i) (count i)) in
    λ i. record { frame = frame i; hints = hints i; misbound = misbound i; unbound = unbound i; twice = twice i; empty = tag.empty }

pub returns-clause-scope : goal.returns-clause-scope
returns-clause-scope c =
    let own : c.in_ok-declared.field-0.declared ≡ bindings_of c.args.tag.attributes = ap (λ (p : Parts). p.declared) c.in_ok-declared.ensures in
    c.in_ok-again.ensures.scope ∙ ap (λ (bs : List Binding). bs ++ c.args.scope.now) own
