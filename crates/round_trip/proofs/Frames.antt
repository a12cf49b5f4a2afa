-- The fixed lines of a text: the elements around the properties.
use Rattle.std.proofs.Common.{◌≡◌, ℕ, ◌+◌, Bool, false, ◌||◌, ◌⊎◌, inl, inr, List, [], ◌∷◌, ◌++◌, length, map, Option, Some, None, refl, ap, sym, subst, ◌∙◌, append-nil, arith, true}
use Rattle.std.specs.Prelude.{codes, is_none, encode_utf8_all, unwrap_or}
use Rattle.std.specs.List.{list_any, filter_map}
use lib.Utf8.{encode}
use Rattle.std.proofs.lemmas.Bool.{or_from}
use Rattle.std.proofs.lemmas.Str.{encodes-append}
use Rattle.xmp_values.specs.Characters.{is_char, is_blank, is_name_start, is_name_char, IsCharText, IsName}
use Rattle.xmp_values.specs.Spaces.{meta_space, xmlns_space}
use Rattle.xmp_values.specs.declared.hints.Hint.{Hint}
use Rattle.xmp_values.specs.declared.text.Name.{Name}
use Rattle.known_prefixes.specs.Prefixes.{fixed_prefix}
use Rattle.xml_grammar.specs.declared.elements.Attribute.{Attribute}
use Rattle.xml_grammar.specs.declared.tags.QName.{QName}
use Rattle.xml_grammar.specs.declared.tags.RawAttribute.{RawAttribute}
use Rattle.xml_grammar.specs.declared.tags.Tag.{Tag}
use Rattle.xml_grammar.specs.Pieces.{Start, End, Character, Spells}
use Rattle.xmp_values.specs.Names.{same_name}
use Rattle.xml_grammar.specs.Scopes.{Binding, bindings_of, plain_attributes, bound_to, or_nothing, element_name, expanded, expanded_attributes, is_misbound, is_unbound, same_qname}
use Rattle.xml_grammar.specs.Nesting.{Level, Nest, start, bound_at, has_twice, misbinds, unbinds, repeats, broken}
use Rattle.xml_grammar.specs.Trees.{Event, Opens, Closes, put, events_of, hint_of}
use Rattle.xmp_tree.specs.Wf.{lang_name, type_name}
use Rattle.rdf_forms.specs.Words.{rdf, rdf_space, xml_space}
use Rattle.round_trip.proofs.Premises.{bound_by, AreDeclarable, IsWritable}
use Rattle.xmp_write.specs.Text.{top_text, open_meta, open_rdf}
use Rattle.xmp_write.specs.Prefixes.{prefix_in, spelled}
use Rattle.round_trip.proofs.Spelt.{inside, IsSpeltWith, IsSpelt, Anything, spelt_both, spelt_one}
use Rattle.round_trip.proofs.Tags.{none_of, end_good}
use Rattle.round_trip.proofs.Quoted.{value_spelled}
use Rattle.std.proofs.Math.Utf8.{scalars}
use Rattle.xmp_values.proofs.CharacterTexts.{name_scalars}
use Rattle.round_trip.proofs.Escapes.{scalars_append}
use Rattle.round_trip.proofs.Marks.{in_rdf_prefix}
use Rattle.round_trip.specs.Law.{meta_hint, rdf_hint}
use Rattle.round_trip.proofs.Declared.{declared, top_raws, top_spelled, declares, none_plain, none_misbound, top_once, bound_after, bound_here, each_fresh, found_named}
use Rattle.round_trip.proofs.Built.{IsTagName}
use Rattle.round_trip.proofs.Writing.{IsScope}

-- a line feed inside an element
pub line_spelt : (l : Level) (ls : List Level) (at : ℕ) → IsSpelt Anything (inside (l ∷ ls)) at (codes "\n") (put (codes "\n")) (inside (l ∷ ls))
unfolding encode is_char broken
line_spelt l ls at =
    spelt_one [] (inside (l ∷ ls)) at (Character 0xA) (codes "\n") (put (codes "\n"))
    (λ left. record { spelled = (refl, λ e. omega arith, λ e. omega arith, λ e. omega arith, refl); fits = λ mode is. absurd (omega arith) }) refl refl refl (λ more. refl)

-- ---- the levels

abbrev pub meta_q : QName
meta_q = record { prefix = Some (codes "x"); local = codes "xmpmeta" }

abbrev pub meta_tag : Tag
meta_tag = record { name = meta_q; attributes = record { name = record { prefix = Some (codes "xmlns"); local = codes "x" }; value = codes "adobe:ns:meta/" } ∷ []; empty = false }

-- before the root, where nothing was read yet or something was
abbrev pub before_root : Bool → Nest
before_root first = record { first = first; levels = []; rooted = false }

abbrev pub outside : Nest
outside = before_root false

abbrev pub meta_level : Level
meta_level = record { name = meta_q; bound = bound_at start meta_tag }

abbrev pub rdf_tag : Tag
rdf_tag = record {
  name = in_rdf_prefix (codes "RDF");
  attributes = record { name = record { prefix = Some (codes "xmlns"); local = codes "rdf" }; value = codes "http://www.w3.org/1999/02/22-rdf-syntax-ns#" } ∷ [];
  empty = false;
}

abbrev pub rdf_level : Level
rdf_level = record { name = in_rdf_prefix (codes "RDF"); bound = bound_at (inside (meta_level ∷ [])) rdf_tag }

abbrev pub top_tag : List ℕ → List Hint → Tag
top_tag about ps = record { name = in_rdf_prefix (codes "Description"); attributes = top_raws about ps; empty = false }

abbrev pub top_level : List ℕ → List Hint → Level
top_level about ps = record { name = in_rdf_prefix (codes "Description"); bound = bound_at (inside (rdf_level ∷ meta_level ∷ [])) (top_tag about ps) }

top_bound : (about : List ℕ) (ps : List Hint) → (top_level about ps).bound ≡ map bound_by ps ++ rdf_level.bound
top_bound about ps = ap (λ (bs : List Binding). bs ++ rdf_level.bound) (declares ps)

rdf_bound : (about : List ℕ) (ps : List Hint) → AreDeclarable ps → bound_to (top_level about ps).bound (Some (codes "rdf")) ≡ Some rdf_space
unfolding rdf_space
rdf_bound about ps h =
    ap (λ (bs : List Binding). bound_to bs (Some (codes "rdf"))) (top_bound about ps)
    ∙ bound_after ps rdf_level.bound (codes "rdf") (each_fresh (codes "rdf") (λ g k. k.not_rdf) ps h)

xml_bound : (about : List ℕ) (ps : List Hint) → AreDeclarable ps → bound_to (top_level about ps).bound (Some (codes "xml")) ≡ Some xml_space
unfolding xml_space
xml_bound about ps h =
    ap (λ (bs : List Binding). bound_to bs (Some (codes "xml"))) (top_bound about ps)
    ∙ bound_after ps rdf_level.bound (codes "xml") (each_fresh (codes "xml") (λ g k. k.not_xml) ps h)

x_bound : (about : List ℕ) (ps : List Hint) → AreDeclarable ps → bound_to (top_level about ps).bound (Some (codes "x")) ≡ Some meta_space
unfolding meta_space
x_bound about ps h =
    ap (λ (bs : List Binding). bound_to bs (Some (codes "x"))) (top_bound about ps)
    ∙ bound_after ps rdf_level.bound (codes "x") (each_fresh (codes "x") (λ g k. k.not_x) ps h)

prefixed : (bs : List Binding) (name : Name) (prefix bytes : List ℕ) → IsName prefix → IsName name.local → bound_to bs (Some prefix) ≡ Some name.space
    → bytes ≡ prefix ++ codes ":" ++ name.local → IsTagName bs name bytes
unfolding encode
prefixed bs name prefix bytes (pc, is, named) (lc, at, local) bound same = record {
  prefix = prefix;
  chars = pc ++ codes ":" ++ lc;
  spelled = (pc, lc, (named, is), (local, at), refl);
  scalar = scalars_append (pc ++ codes ":") lc (scalars_append pc (codes ":") (name_scalars pc named) refl) (name_scalars lc local);
  utf8 =
      same ∙ ap (λ (t : List ℕ). t ++ codes ":" ++ name.local) is ∙ ap (λ (t : List ℕ). encode_utf8_all pc ++ codes ":" ++ t) at
      ∙ ap (λ (t : List ℕ). t ++ encode_utf8_all lc) (sym (encodes-append pc (codes ":"))) ∙ sym (encodes-append (pc ++ codes ":") lc);
  bound = bound;
}

fixed_names : IsName (codes "rdf") × IsName (codes "xml") × IsName (codes "x")
unfolding encode is_name_start is_name_char
fixed_names = ((codes "rdf", refl, refl), (codes "xml", refl, refl), (codes "x", refl, refl))

fixed_spaces : (fixed_prefix rdf_space ≡ Some (codes "rdf")) × (fixed_prefix xml_space ≡ Some (codes "xml")) × (fixed_prefix meta_space ≡ Some (codes "x"))
unfolding rdf_space xml_space meta_space
fixed_spaces = (refl, refl, refl)

fixed_spelled : (ps : List Hint) (name : Name) (prefix : List ℕ) → fixed_prefix name.space ≡ Some prefix → spelled ps name ≡ prefix ++ codes ":" ++ name.local
fixed_spelled ps name prefix is = ap (λ (o : Option (List ℕ)). unwrap_or o (unwrap_or (prefix_in ps name.space) []) ++ codes ":" ++ name.local) is

pub top_scope : (about : List ℕ) (ps : List Hint) → AreDeclarable ps → IsScope ps (IsWritable ps) (top_level about ps).bound
unfolding lang_name type_name
top_scope about ps h = record { base = record { rdf = rdf_bound about ps h; xml = xml_bound about ps h }; own = λ name k. by name k.0 k.1 }
  where
    bs : List Binding
    bs = (top_level about ps).bound

    by : (name : Name) → IsName name.local
        → ((name ≡ lang_name) ⊎ ((name ≡ type_name) ⊎ ((name.space ≡ meta_space) ⊎ ((prefix : List ℕ) × (fixed_prefix name.space ≡ None) × (prefix_in ps name.space ≡ Some prefix)))))
        → IsTagName (top_level about ps).bound name (spelled ps name)
    by name local (inl is) =
        let space : name.space ≡ xml_space = ap (λ (n : Name). n.space) is in
        prefixed (top_level about ps).bound name (codes "xml") (spelled ps name) fixed_names.1 local (xml_bound about ps h ∙ ap (λ (t : List ℕ). Some t) (sym space))
        (fixed_spelled ps name (codes "xml") (ap fixed_prefix space ∙ fixed_spaces.1))
    by name local (inr (inl is)) =
        let space : name.space ≡ rdf_space = ap (λ (n : Name). n.space) is in
        prefixed (top_level about ps).bound name (codes "rdf") (spelled ps name) fixed_names.0 local (rdf_bound about ps h ∙ ap (λ (t : List ℕ). Some t) (sym space))
        (fixed_spelled ps name (codes "rdf") (ap fixed_prefix space ∙ fixed_spaces.0))
    by name local (inr (inr (inl space))) =
        prefixed (top_level about ps).bound name (codes "x") (spelled ps name) fixed_names.2 local (x_bound about ps h ∙ ap (λ (t : List ℕ). Some t) (sym space))
        (fixed_spelled ps name (codes "x") (ap fixed_prefix space ∙ fixed_spaces.2))
    by name local (inr (inr (inr (prefix, none, found)))) =
        prefixed (top_level about ps).bound name prefix (spelled ps name) (found_named ps name.space prefix h found) local
        (ap (λ (bs : List Binding). bound_to bs (Some prefix)) (top_bound about ps) ∙ bound_here ps rdf_level.bound name.space prefix h found)
        (ap (λ (o : Option (List ℕ)). unwrap_or o (unwrap_or (prefix_in ps name.space) []) ++ codes ":" ++ name.local) none
        ∙ ap (λ (o : Option (List ℕ)). unwrap_or o [] ++ codes ":" ++ name.local) found)

-- ---- the tags

meta_spelled : Spells (Start meta_tag) open_meta
unfolding encode is_name_start is_name_char is_char is_blank
meta_spelled = (
  codes "x:xmpmeta",
  codes " xmlns:x=\"adobe:ns:meta/\"",
  [],
  (codes "x", codes "xmpmeta", (refl, refl), (refl, refl), refl),
  (
    codes " ",
    codes "xmlns:x=\"adobe:ns:meta/\"",
    [],
    refl,
    (
      codes "xmlns:x",
      codes "=",
      codes "\"adobe:ns:meta/\"",
      (codes "xmlns", codes "x", (refl, refl), (refl, refl), refl),
      ([], [], refl, refl, refl),
      value_spelled (codes "adobe:ns:meta/") refl,
      refl,
    ),
    refl,
    refl,
  ),
  refl,
  refl,
)

rdf_spelled : Spells (Start rdf_tag) open_rdf
unfolding encode is_name_start is_name_char is_char is_blank
rdf_spelled = (
  codes "rdf:RDF",
  codes " xmlns:rdf=\"http://www.w3.org/1999/02/22-rdf-syntax-ns#\"",
  [],
  (codes "rdf", codes "RDF", (refl, refl), (refl, refl), refl),
  (
    codes " ",
    codes "xmlns:rdf=\"http://www.w3.org/1999/02/22-rdf-syntax-ns#\"",
    [],
    refl,
    (
      codes "xmlns:rdf",
      codes "=",
      codes "\"http://www.w3.org/1999/02/22-rdf-syntax-ns#\"",
      (codes "xmlns", codes "rdf", (refl, refl), (refl, refl), refl),
      ([], [], refl, refl, refl),
      value_spelled (codes "http://www.w3.org/1999/02/22-rdf-syntax-ns#") refl,
      refl,
    ),
    refl,
    refl,
  ),
  refl,
  refl,
)

pub meta_start : (first : Bool) (at : ℕ) → IsSpeltWith (meta_hint ∷ []) Anything (before_root first) at open_meta (λ es. Opens at (record { space = meta_space; local = codes "xmpmeta" }) [] ∷ es) (inside (meta_level ∷ []))
unfolding encode broken xml_space xmlns_space meta_space
meta_start true at =
    spelt_one (meta_hint ∷ []) start at (Start meta_tag) open_meta (λ es. Opens at (record { space = meta_space; local = codes "xmpmeta" }) [] ∷ es)
    (λ left. record { spelled = meta_spelled; fits = tt }) refl refl refl (λ more. refl)
meta_start false at =
    spelt_one (meta_hint ∷ []) outside at (Start meta_tag) open_meta (λ es. Opens at (record { space = meta_space; local = codes "xmpmeta" }) [] ∷ es)
    (λ left. record { spelled = meta_spelled; fits = tt }) refl refl refl (λ more. refl)

pub rdf_start : (at : ℕ) → IsSpeltWith (rdf_hint ∷ []) Anything (inside (meta_level ∷ [])) at open_rdf (λ es. Opens at (rdf (codes "RDF")) [] ∷ es) (inside (rdf_level ∷ meta_level ∷ []))
unfolding encode broken xml_space xmlns_space rdf_space
rdf_start at =
    spelt_one (rdf_hint ∷ []) (inside (meta_level ∷ [])) at (Start rdf_tag) open_rdf (λ es. Opens at (rdf (codes "RDF")) [] ∷ es)
    (λ left. record { spelled = rdf_spelled; fits = tt }) refl refl refl (λ more. refl)

top_good : (about : List ℕ) (ps : List Hint) → AreDeclarable ps → broken (inside (rdf_level ∷ meta_level ∷ [])) (Start (top_tag about ps)) ≡ None
unfolding broken
top_good about ps h =
    none_of (misbinds (Start (top_tag about ps))) (unbinds (inside (rdf_level ∷ meta_level ∷ [])) (Start (top_tag about ps))) (repeats (inside (rdf_level ∷ meta_level ∷ [])) (Start (top_tag about ps))) false
    (ap (λ (bs : List Binding). list_any is_misbound bs) (declares ps) ∙ none_misbound ps h)
    (or_from (is_unbound bs (Some (codes "rdf"))) (list_any (λ (a : RawAttribute). is_unbound bs a.name.prefix) (plain_attributes (top_raws about ps))) free
    (ap (λ (xs : List RawAttribute). is_unbound bs (Some (codes "rdf")) || list_any (λ (a : RawAttribute). is_unbound bs a.name.prefix) xs) (none_plain ps) ∙ or_from (is_unbound bs (Some (codes "rdf"))) false free refl))
    (or_from (has_twice (λ (a b : RawAttribute). same_qname a.name b.name) (top_raws about ps)) (has_twice (λ (a b : Attribute). same_name a.name b.name) (expanded_attributes bs (top_raws about ps))) (top_once about ps h)
    (ap (λ (xs : List RawAttribute). has_twice (λ (a b : Attribute). same_name a.name b.name) (expanded bs (record { name = in_rdf_prefix (codes "about"); value = about }) ∷ map (expanded bs) xs)) (none_plain ps)))
    refl
  where
    bs : List Binding
    bs = (top_level about ps).bound

    free : is_unbound (top_level about ps).bound (Some (codes "rdf")) ≡ false
    free = ap is_none (rdf_bound about ps h)

hints_bound : (ps : List Hint) → filter_map hint_of (map bound_by ps) ≡ ps
hints_bound [] = refl
hints_bound (p ∷ ps) = ap (λ (hs : List Hint). p ∷ hs) (hints_bound ps)

hints_declared : (ps : List Hint) → filter_map hint_of (bindings_of (map declared ps)) ≡ ps
hints_declared ps = ap (filter_map hint_of) (declares ps) ∙ hints_bound ps

-- the about as an attribute
abbrev pub about_attribute : List ℕ → Attribute
about_attribute about = record { name = rdf (codes "about"); value = about }

pub top_start : (about : List ℕ) (ps : List Hint) (at : ℕ) → IsCharText about → AreDeclarable ps
    → IsSpeltWith ps Anything (inside (rdf_level ∷ meta_level ∷ [])) at (codes "<rdf:Description" ++ top_text about ps ++ codes ">")
    (λ es. Opens at (rdf (codes "Description")) (about_attribute about ∷ []) ∷ es) (inside (top_level about ps ∷ rdf_level ∷ meta_level ∷ []))
unfolding encode is_name_start is_name_char
top_start about ps at text h =
    let t = top_spelled about ps text h in
    let all : encode_utf8_all (codes "<rdf:Description" ++ t.0 ++ [] ++ codes ">") ≡ codes "<rdf:Description" ++ top_text about ps ++ codes ">" =
    ap (λ (x : List ℕ). encode_utf8_all (x ++ codes ">")) (append-nil (codes "<rdf:Description" ++ t.0))
    ∙ encodes-append (codes "<rdf:Description" ++ t.0) (codes ">")
    ∙ ap (λ (x : List ℕ). x ++ codes ">") (encodes-append (codes "<rdf:Description") t.0 ∙ ap (λ (x : List ℕ). codes "<rdf:Description" ++ x) (sym t.2)) in
    subst (λ (b : List ℕ). IsSpeltWith ps Anything (inside (rdf_level ∷ meta_level ∷ [])) at b (λ es. Opens at (rdf (codes "Description")) (about_attribute about ∷ []) ∷ es) (inside (top_level about ps ∷ rdf_level ∷ meta_level ∷ []))) all
    (spelt_one ps (inside (rdf_level ∷ meta_level ∷ [])) at (Start (top_tag about ps)) (codes "<rdf:Description" ++ t.0 ++ [] ++ codes ">")
    (λ es. Opens at (rdf (codes "Description")) (about_attribute about ∷ []) ∷ es)
    (λ left. record { spelled = (codes "rdf:Description", t.0, [], (codes "rdf", codes "Description", (refl, refl), (refl, refl), refl), t.1, refl, refl); fits = tt })
    (top_good about ps h) (scalars_append (codes "<rdf:Description" ++ t.0 ++ []) (codes ">") (scalars_append (codes "<rdf:Description" ++ t.0) [] (scalars_append (codes "<rdf:Description") t.0 refl t.3) refl) refl) (hints_declared ps) (λ more.
    ap (λ (xs : List RawAttribute). Opens at (element_name bs (in_rdf_prefix (codes "Description"))) (expanded bs (record { name = in_rdf_prefix (codes "about"); value = about }) ∷ map (expanded bs) xs)
    ∷ events_of (inside (top_level about ps ∷ rdf_level ∷ meta_level ∷ [])) more) (none_plain ps)
    ∙ ap (λ (o : Option (List ℕ)). Opens at (record { space = or_nothing o; local = codes "Description" }) (record { name = record { space = or_nothing o; local = codes "about" }; value = about } ∷ [])
    ∷ events_of (inside (top_level about ps ∷ rdf_level ∷ meta_level ∷ [])) more) (rdf_bound about ps h)))
  where
    bs : List Binding
    bs = (top_level about ps).bound

closed : (lev : Level) (ls : List Level) (at : ℕ) (text : List ℕ) → Spells (End lev.name) text → scalars text ≡ true → IsSpelt Anything (inside (lev ∷ ls)) at (encode_utf8_all text) (λ es. Closes ∷ es) (inside ls)
closed lev ls at text h plain = spelt_one [] (inside (lev ∷ ls)) at (End lev.name) text (λ es. Closes ∷ es) (λ left. record { spelled = h; fits = tt }) (end_good lev ls) plain refl (λ more. refl)

pub top_end : (about : List ℕ) (ps : List Hint) (ls : List Level) (at : ℕ) → IsSpelt Anything (inside (top_level about ps ∷ ls)) at (codes "</rdf:Description>") (λ es. Closes ∷ es) (inside ls)
unfolding encode is_name_start is_name_char
top_end about ps ls at = closed (top_level about ps) ls at (codes "</rdf:Description>") (codes "rdf:Description", [], (codes "rdf", codes "Description", (refl, refl), (refl, refl), refl), refl, refl) refl

pub rdf_end : (ls : List Level) (at : ℕ) → IsSpelt Anything (inside (rdf_level ∷ ls)) at (codes "</rdf:RDF>") (λ es. Closes ∷ es) (inside ls)
unfolding encode is_name_start is_name_char
rdf_end ls at = closed rdf_level ls at (codes "</rdf:RDF>") (codes "rdf:RDF", [], (codes "rdf", codes "RDF", (refl, refl), (refl, refl), refl), refl, refl) refl

pub meta_end : (ls : List Level) (at : ℕ) → IsSpelt Anything (inside (meta_level ∷ ls)) at (codes "</x:xmpmeta>") (λ es. Closes ∷ es) (inside ls)
unfolding encode is_name_start is_name_char
meta_end ls at = closed meta_level ls at (codes "</x:xmpmeta>") (codes "x:xmpmeta", [], (codes "x", codes "xmpmeta", (refl, refl), (refl, refl), refl), refl, refl) refl

-- ---- what stands between two tags

pub frame : (hs gs : List Hint) (s : Nest) (lev : Level) (ls : List Level) (at : ℕ) (a b c : List ℕ) (o : Event) (f : List Event → List Event)
    → IsSpeltWith hs Anything s at a (λ es. o ∷ es) (inside (lev ∷ ls)) → IsSpeltWith gs Anything (inside (lev ∷ ls)) (at + length a) b f (inside (lev ∷ ls))
    → IsSpelt Anything (inside (lev ∷ ls)) (at + length a + length b) c (λ es. Closes ∷ es) (inside ls)
    → IsSpeltWith (hs ++ gs) Anything s at (a ++ (b ++ c)) (λ es. o ∷ f (Closes ∷ es)) (inside ls)
frame hs gs s lev ls at a b c o f h k e =
    spelt_both hs gs Anything Anything s (inside (lev ∷ ls)) (inside ls) at a (b ++ c) (λ es. o ∷ es) (λ es. f (Closes ∷ es)) h
    (subst (λ (x : List Hint). IsSpeltWith x Anything (inside (lev ∷ ls)) (at + length a) (b ++ c) (λ es. f (Closes ∷ es)) (inside ls)) (append-nil gs)
    (spelt_both gs [] Anything Anything (inside (lev ∷ ls)) (inside (lev ∷ ls)) (inside ls) (at + length a) b c f (λ es. Closes ∷ es) k e (λ left any. tt))) (λ left any. tt)

-- between two line feeds
pub lined_between : (hs : List Hint) (l : Level) (ls : List Level) (at : ℕ) (b : List ℕ) (f : List Event → List Event) → IsSpeltWith hs Anything (inside (l ∷ ls)) (at + length (codes "\n")) b f (inside (l ∷ ls))
    → IsSpeltWith hs Anything (inside (l ∷ ls)) at (codes "\n" ++ (b ++ codes "\n")) (λ es. put (codes "\n") (f (put (codes "\n") es))) (inside (l ∷ ls))
lined_between hs l ls at b f h =
    spelt_both [] hs Anything Anything (inside (l ∷ ls)) (inside (l ∷ ls)) (inside (l ∷ ls)) at (codes "\n") (b ++ codes "\n") (put (codes "\n")) (λ es. f (put (codes "\n") es)) (line_spelt l ls at)
    (subst (λ (x : List Hint). IsSpeltWith x Anything (inside (l ∷ ls)) (at + length (codes "\n")) (b ++ codes "\n") (λ es. f (put (codes "\n") es)) (inside (l ∷ ls))) (append-nil hs)
    (spelt_both hs [] Anything Anything (inside (l ∷ ls)) (inside (l ∷ ls)) (inside (l ∷ ls)) (at + length (codes "\n")) b (codes "\n") f (put (codes "\n")) h (line_spelt l ls (at + length (codes "\n") + length b)) (λ left any. tt))) (λ left any. tt)
