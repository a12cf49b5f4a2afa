-- What reading the bytes of a directory says of it.
use Rattle.std.proofs.Common.{◌≡◌, ℕ, ◌+◌, ◌*◌, Bool, false, List, [], ◌∷◌, ◌++◌, length, take, drop, refl, sym, ap, subst, ◌∙◌, arith, None, Contains}
use Rattle.std.specs.List.{flat_map}
use Rattle.std.proofs.lemmas.List.Elements.{Contains-append_left, Contains-append_right}
use Rattle.xmp_base.specs.declared.file_span.FileSpan.{FileSpan}
use Rattle.xmp_base.specs.Device.{DeskState, Told, bytes_of}
use Rattle.xmp_base.specs.Windows.{ReadInside}
use Rattle.tiff_dirs.specs.declared.layout.Layout.{Layout}
use Rattle.tiff_dirs.specs.declared.entry.Entry.{Entry}
use Rattle.tiff_dirs.specs.declared.directory.Reached.{Reached}
use Rattle.tiff_dirs.specs.Numbers.{number}
use Rattle.tiff_dirs.specs.Layouts.{Widths}
use Rattle.tiff_dirs.specs.Directories.{span, named, chained, count_at, end_at, entries_at, entries_from}
use Rattle.tiff_dirs.specs.Pictures.{pictures_of, spans_of}
use Rattle.tiff_dirs.specs.Faults.{entries_fault, pictures_fault, inner_fault}
use Rattle.tiff_dirs.specs.Parts.{IsPart, entries_in_part}
use Rattle.tiff_dirs.specs.Tables.{Reads, tables_in, tables_at}
use Rattle.tiff_dirs.specs.Walking.{Body, capped}
use Rattle.tiff_dirs.proofs.Piece.{number_part, entries_part}
use Rattle.tiff_dirs.proofs.Reading.{body_clear, children_are}
use Rattle.tiff_dirs.proofs.Loads.{reads_inside, reads_trans, reads_wider}

head_in : (x : FileSpan) (rest : List FileSpan) → Contains (x ∷ rest) x
head_in x rest = (0, omega arith, refl)

tail_in : (x : FileSpan) (rest : List FileSpan) (r : FileSpan) → Contains rest r → Contains (x ∷ rest) r
tail_in x rest r h = Contains-append_right (x ∷ []) rest r h

module _ (l : Layout) (file bytes : List ℕ) (at n : ℕ) (is : bytes ≡ take (l.entry * n + l.word) (drop (at + l.count) file)) (count : n ≡ count_at l file at) where
  pub entries_known : Widths l → entries_in_part l (at + l.count) bytes 0 n ≡ entries_at l file at
  entries_known w =
      entries_part bytes file (at + l.count) (l.entry * n + l.word) is l w 0 (at + l.count) n (omega arith) (omega arith)
      ∙ ap (entries_from l file (at + l.count)) count

  pub next_known : number l.big l.word (l.entry * n) bytes ≡ number l.big l.word (at + l.count + l.entry * n) file
  next_known = number_part bytes file (at + l.count) (l.entry * n + l.word) is l.big l.word (l.entry * n) (at + l.count + l.entry * n) (omega arith) (omega arith)

pub is_part : (file bytes : List ℕ) (start size : ℕ) → length bytes ≡ size → bytes ≡ take size (drop start file) → IsPart bytes start file
is_part file bytes start size e is = is ∙ ap (λ (n : ℕ). take n (drop start file)) (sym e)

pub body_known : (l : Layout) (file : List ℕ) (first : Bool) (at n len next end : ℕ) (old new : List ℕ) (seen shown : List FileSpan) (d : Reached) (items : List Entry) → length file ≡ len
    → n ≡ count_at l file at → items ≡ entries_at l file at → entries_fault l len first false items ≡ None
    → (shown ≡ seen ++ spans_of (pictures_of l file items)) × (pictures_fault len (pictures_of l file items) ≡ None)
    → next ≡ number l.big l.word (at + l.count + l.entry * n) file → new ≡ capped (old ++ (flat_map (named l file) items ++ chained next))
    → d.at ≡ at → d.end ≡ at + l.count + l.entry * n + l.word → d.count ≡ n → Body l file first at old new seen shown d
body_known l file first at n len next end old new seen shown d items size count e none p c r o z i = record {
  clear = subst (λ (es : List Entry). inner_fault l file first es ≡ None) e (body_clear l file len first items size none p.1);
  offset = o;
  end = z ∙ ap (λ (k : ℕ). at + l.count + l.entry * k + l.word) count;
  count = i ∙ count;
  reached = r ∙ ap (λ (t : List ℕ). capped (old ++ t)) (children_are l file at n next items count e c);
  pictures = p.0 ∙ ap (λ (es : List Entry). seen ++ spans_of (pictures_of l file es)) e;
}

-- the bytes after the count are a part of the directory
pub body_read : (s t : DeskState) (name : List ℕ) (l : Layout) (at n : ℕ) → ReadInside s t name (at + l.count) (at + l.count + (l.entry * n + l.word))
    → Told s.files (λ files. n ≡ count_at l (bytes_of files name) at) → Reads s t name (λ file. tables_at l file at)
body_read s t name l at n a count =
    reads_inside name s t (at + l.count) (at + l.count + (l.entry * n + l.word)) (λ file. tables_at l file at) a
    (λ files told.
    let file = bytes_of files name in
    let product : l.entry * n ≡ l.entry * count_at l file at = ap (λ (k : ℕ). l.entry * k) (count files told) in
    (span at (end_at l file at), head_in (span at (end_at l file at)) (tables_in (entries_at l file at)), omega arith, omega (arith, product)))

-- reads of the values are among the tables
pub values_read : (s t : DeskState) (name : List ℕ) (l : Layout) (at : ℕ) (items : List Entry) → Reads s t name (λ _. tables_in items)
    → Told s.files (λ files. items ≡ entries_at l (bytes_of files name) at) → Reads s t name (λ file. tables_at l file at)
values_read s t name l at items a is =
    reads_wider name s t (λ _. tables_in items) (λ file. tables_at l file at) a
    (λ files told r h. let file = bytes_of files name in
    tail_in (span at (end_at l file at)) (tables_in (entries_at l file at)) r (subst (λ (es : List Entry). Contains (tables_in es) r) (is files told) h))

pub count_among : (s t : DeskState) (name : List ℕ) (l : Layout) (at : ℕ) → Reads s t name (λ file. span at (end_at l file at) ∷ []) → Reads s t name (λ file. tables_at l file at)
count_among s t name l at a =
    reads_wider name s t (λ file. span at (end_at l file at) ∷ []) (λ file. tables_at l file at) a
    (λ files told r h. let file = bytes_of files name in Contains-append_left (span at (end_at l file at) ∷ []) (tables_in (entries_at l file at)) r h)

-- the bytes, and then values that the entries name
module _ (s t u v : DeskState) (name : List ℕ) (l : Layout) (at n : ℕ) (items : List Entry) (a : ReadInside s t name (at + l.count) (at + l.count + (l.entry * n + l.word)))
    (count : Told s.files (λ files. n ≡ count_at l (bytes_of files name) at)) (is : Told s.files (λ files. items ≡ entries_at l (bytes_of files name) at)) (b : Reads t u name (λ _. tables_in items)) where
  pub body_values : Reads s u name (λ file. tables_at l file at)
  body_values =
      reads_trans name s t u (λ file. tables_at l file at) (body_read s t name l at n a count)
      (values_read t u name l at items b (λ files told. is files (sym a.same.files ∙ told)))

  pub body_more : Reads u v name (λ _. tables_in items) → Reads s v name (λ file. tables_at l file at)
  body_more c =
      reads_trans name s u v (λ file. tables_at l file at) body_values
      (values_read u v name l at items c (λ files told. is files (sym a.same.files ∙ (sym b.same.files ∙ told))))
