-- What the table of known prefixes keeps, row by row.
use Rattle.std.proofs.Common.{◌≡◌, ◌≢◌, ℕ, Bool, true, false, cond, ◌||◌, List, [], ◌∷◌, drop, Some, refl, sym, subst, ◌∙◌}
use Rattle.std.specs.Prelude.{codes}
use Rattle.std.specs.Map.{lookup}
use Rattle.std.specs.Str.{bytes_eq}
use Rattle.std.proofs.lemmas.Slice.Eq.{bytes_eq-Decides}
use lib.Utf8.{encode}
use Rattle.xmp_values.specs.Characters.{IsName, is_name_start, is_name_char}
use Rattle.xmp_values.specs.Spaces.{rdf_space, xml_space, meta_space}
use Rattle.known_prefixes.specs.Prefixes.{known_prefixes, known_prefix, known_space, is_known, is_fixed, begins_xml}

abbrev Rows : (List ℕ → List ℕ → Type 0) → List (List ℕ × List ℕ) → Type 0
Rows P [] = Unit {0}
Rows P (row ∷ rows) = P row.0 row.1 × Rows P rows

-- what holds of each row holds of what is found
module _ (P : List ℕ → List ℕ → Type 0) (space prefix : List ℕ) where
  of_row : (rows : List (List ℕ × List ℕ)) → Rows P rows → lookup (bytes_eq space) rows ≡ Some prefix → P space prefix
  of_row [] all found = absurd cc
  of_row (row ∷ rows) all found = by (bytes_eq space row.0) refl found (of_row rows all.1)
    where
      by : (b : Bool) → bytes_eq space row.0 ≡ b → cond b (Some row.1) (lookup (bytes_eq space) rows) ≡ Some prefix → (lookup (bytes_eq space) rows ≡ Some prefix → P space prefix) → P space prefix
      by true is found rest =
          let same : space ≡ row.0 = (bytes_eq-Decides space row.0).0 is in
          let also : row.1 ≡ prefix = cc in
          subst (λ (p : List ℕ). P space p) also (subst (λ (s : List ℕ). P s row.1) (sym same) all.0)
      by false is found rest = rest found

-- a known prefix is of one namespace
abbrev IsOneSpace : List ℕ → List ℕ → Type 0
IsOneSpace space prefix = (known_space prefix ≡ Some space) × (is_known prefix ≡ true)

each_one : Rows IsOneSpace known_prefixes
each_one = ((refl, refl), ((refl, refl), ((refl, refl), ((refl, refl), ((refl, refl), ((refl, refl), ((refl, refl), ((refl, refl), ((refl, refl), ((refl, refl), ((refl, refl), ((refl, refl), tt))))))))))))

pub one_space : (space prefix : List ℕ) → known_prefix space ≡ Some prefix → IsOneSpace space prefix
one_space space prefix found = of_row IsOneSpace space prefix known_prefixes each_one found

-- a prefix that may be declared
pub record IsFree (prefix : List ℕ) : Type 0 where
  pub named : IsName prefix
  pub not_rdf : prefix ≢ codes "rdf"
  pub not_x : prefix ≢ codes "x"
  pub not_xml : begins_xml prefix ≡ false

row_free : (prefix : List ℕ) → IsName prefix → begins_xml prefix ≡ false → bytes_eq prefix (codes "rdf") ≡ false → bytes_eq prefix (codes "x") ≡ false → IsFree prefix
row_free prefix named not_xml not_rdf not_x = record {
  named = named;
  not_rdf = λ same. let there = (bytes_eq-Decides prefix (codes "rdf")).1 same in cc;
  not_x = λ same. let there = (bytes_eq-Decides prefix (codes "x")).1 same in cc;
  not_xml = not_xml;
}

abbrev IsFreeRow : List ℕ → List ℕ → Type 0
IsFreeRow space prefix = IsFree prefix

own_rows : Rows IsFreeRow (drop 3 known_prefixes)
unfolding encode is_name_start is_name_char
own_rows = (
  row_free (codes "dc") (codes "dc", refl, refl) refl refl refl,
  (
    row_free (codes "xmp") (codes "xmp", refl, refl) refl refl refl,
    (
      row_free (codes "xmpMM") (codes "xmpMM", refl, refl) refl refl refl,
      (
        row_free (codes "xmpRights") (codes "xmpRights", refl, refl) refl refl refl,
        (
          row_free (codes "photoshop") (codes "photoshop", refl, refl) refl refl refl,
          (
            row_free (codes "tiff") (codes "tiff", refl, refl) refl refl refl,
            (
              row_free (codes "exif") (codes "exif", refl, refl) refl refl refl,
              (
                row_free (codes "xmpNote") (codes "xmpNote", refl, refl) refl refl refl,
                (
                  row_free (codes "Iptc4xmpCore") (codes "Iptc4xmpCore", refl, refl) refl refl refl,
                  tt,
                ),
              ),
            ),
          ),
        ),
      ),
    ),
  ),
)

past_fixed : {X : Type 0} (a b c : Bool) (x y z w : X) → (a || (b || (c || false))) ≡ false → cond a x (cond b y (cond c z w)) ≡ w
past_fixed false false false x y z w is = refl
past_fixed true b c x y z w is = absurd cc
past_fixed false true c x y z w is = absurd cc
past_fixed false false true x y z w is = absurd cc

pub known_free : (space prefix : List ℕ) → is_fixed space ≡ false → known_prefix space ≡ Some prefix → IsFree prefix
known_free space prefix unfixed found =
    of_row IsFreeRow space prefix (drop 3 known_prefixes) own_rows (sym (past_fixed (bytes_eq space rdf_space) (bytes_eq space xml_space) (bytes_eq space meta_space) (Some (codes "rdf")) (Some (codes "xml")) (Some (codes "x"))
    (lookup (bytes_eq space) (drop 3 known_prefixes)) unfixed) ∙ found)
