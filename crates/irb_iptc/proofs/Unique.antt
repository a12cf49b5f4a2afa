-- Bytes tell their blocks, and where the list ends.
use Rattle.std.proofs.Common.{◌≡◌, inl, inr, ℕ, ◌+◌, ◌%◌, true, false, nat_eq, List, [], ◌∷◌, ◌++◌, length, take, drop, refl, sym, ap, subst, ◌∙◌, arith, append_assoc}
use Rattle.std.specs.List.{starts_with}
use Rattle.std.proofs.lemmas.List.{take_at, drop_at, length-append, nil_from_length}
use Rattle.std.proofs.lemmas.Slice.Eq.{starts_is}
use Rattle.std.proofs.lemmas.Bool.Decides.{Decides-eqb}
use Rattle.byteorder.specs.Endian.{big_number}
use Rattle.irb_iptc.specs.Resources.{Resource, Stands, Begins, IsPadded, EndsList, IsCut, in_front, in_name, in_body, signature, name_room, head, text}
use Rattle.irb_iptc.proofs.Blocks.{head-append}

pub append_same : (p q x y : List ℕ) → length p ≡ length q → p ++ x ≡ q ++ y → (p ≡ q) × (x ≡ y)
append_same p q x y l e = (
  sym (take_at p x (length p) refl) ∙ ap (take (length p)) e ∙ take_at q y (length p) (sym l),
  sym (drop_at p x (length p) refl) ∙ ap (drop (length p)) e ∙ drop_at q y (length p) (sym l),
)

-- what begins with a signature doesn't end the list
pub begins_signed : (x : List ℕ) → EndsList (signature ++ x) → ⊥
begins_signed x e =
    let t : true ≡ false = sym ((starts_is Decides-eqb (signature ++ x) signature (starts_with nat_eq (signature ++ x) signature) refl).1 x refl) ∙ e in cc

pub spelled : (r : Resource) (x : List ℕ) → text r ++ x ≡ signature ++ (r.code ++ (r.named ∷ (r.name ++ (r.size ++ (r.body ++ (r.pad ++ x))))))
spelled r x = append_assoc (head r) (r.body ++ r.pad) x ∙ ap (λ (l : List ℕ). head r ++ l) (append_assoc r.body r.pad x) ∙ head-append r (r.body ++ (r.pad ++ x))

pub stands_on : (r : Resource) (bytes more : List ℕ) → Stands r bytes more → EndsList bytes → ⊥
stands_on r bytes more s e = begins_signed (r.code ++ (r.named ∷ (r.name ++ (r.size ++ (r.body ++ (r.pad ++ more)))))) (subst EndsList (s.is ∙ spelled r more) e)

resource_same : (r s : Resource) → r.code ≡ s.code → r.named ≡ s.named → r.name ≡ s.name → r.size ≡ s.size → r.body ≡ s.body → r.pad ≡ s.pad → r ≡ s
resource_same r s a b c d e f =
    ap (λ (l : List ℕ). record { code = l; named = r.named; name = r.name; size = r.size; body = r.body; pad = r.pad }) a
    ∙ ap (λ (n : ℕ). record { code = s.code; named = n; name = r.name; size = r.size; body = r.body; pad = r.pad }) b
    ∙ ap (λ (l : List ℕ). record { code = s.code; named = s.named; name = l; size = r.size; body = r.body; pad = r.pad }) c
    ∙ ap (λ (l : List ℕ). record { code = s.code; named = s.named; name = s.name; size = l; body = r.body; pad = r.pad }) d
    ∙ ap (λ (l : List ℕ). record { code = s.code; named = s.named; name = s.name; size = s.size; body = l; pad = r.pad }) e
    ∙ ap (λ (l : List ℕ). record { code = s.code; named = s.named; name = s.name; size = s.size; body = s.body; pad = l }) f

-- a pad byte is missing only where nothing follows
pads_same : (r s : Resource) (x y : List ℕ) → length r.body ≡ length s.body → IsPadded r x → IsPadded s y → r.pad ++ x ≡ s.pad ++ y → (r.pad ≡ s.pad) × (x ≡ y)
pads_same r s x y l (inl a) (inl b) e = append_same r.pad s.pad x y (a ∙ ap (λ (n : ℕ). n % 2) l ∙ sym b) e
pads_same r s x y l (inl a) (inr b) e =
    let none : r.pad ++ x ≡ [] = e ∙ ap (λ (p : List ℕ). p ++ y) b.0 ∙ b.1 in
    let n : length r.pad + length x ≡ 0 = sym (length-append r.pad x) ∙ ap length none in
    (nil_from_length r.pad (omega arith) ∙ sym b.0, nil_from_length x (omega arith) ∙ sym b.1)
pads_same r s x y l (inr a) (inl b) e =
    let none : s.pad ++ y ≡ [] = sym e ∙ ap (λ (p : List ℕ). p ++ x) a.0 ∙ a.1 in
    let n : length s.pad + length y ≡ 0 = sym (length-append s.pad y) ∙ ap length none in
    (a.0 ∙ sym (nil_from_length s.pad (omega arith)), a.1 ∙ sym (nil_from_length y (omega arith)))
pads_same r s x y l (inr a) (inr b) e = (a.0 ∙ sym b.0, a.1 ∙ sym b.1)

-- two blocks at the front of the same bytes are one
pub stands_same : (r s : Resource) (bytes m n : List ℕ) → Stands r bytes m → Stands s bytes n → (r ≡ s) × (m ≡ n)
stands_same r s bytes m n a b =
    let e : signature ++ (r.code ++ (r.named ∷ (r.name ++ (r.size ++ (r.body ++ (r.pad ++ m)))))) ≡ signature ++ (s.code ++ (s.named ∷ (s.name ++ (s.size ++ (s.body ++ (s.pad ++ n)))))) =
    sym (spelled r m) ∙ sym a.is ∙ b.is ∙ spelled s n in
    let signed = append_same signature signature _ _ refl e in
    let codes = append_same r.code s.code _ _ (a.whole.code ∙ sym b.whole.code) signed.1 in
    let after : r.named ∷ (r.name ++ (r.size ++ (r.body ++ (r.pad ++ m)))) ≡ s.named ∷ (s.name ++ (s.size ++ (s.body ++ (s.pad ++ n)))) = codes.1 in
    let named : r.named ≡ s.named = cc after in
    let rest : r.name ++ (r.size ++ (r.body ++ (r.pad ++ m))) ≡ s.name ++ (s.size ++ (s.body ++ (s.pad ++ n))) = cc after in
    let names = append_same r.name s.name _ _ (a.whole.name ∙ ap name_room named ∙ sym b.whole.name) rest in
    let sizes = append_same r.size s.size _ _ (a.whole.size ∙ sym b.whole.size) names.1 in
    let long : length r.body ≡ length s.body = sym a.whole.body ∙ ap (big_number 4) sizes.0 ∙ b.whole.body in
    let bodies = append_same r.body s.body _ _ long sizes.1 in
    let pads = pads_same r s m n long a.padded b.padded bodies.1 in
    (resource_same r s codes.0 named names.0 sizes.0 bodies.0 pads.0, pads.1)

-- blocks that begin the bytes begin their list
pub continues : (bytes : List ℕ) (rs ss : List Resource) (rest tail : List ℕ) → Begins bytes rs rest → Begins bytes ss tail → EndsList tail
    → (more : List Resource) × (ss ≡ rs ++ more) × Begins rest more tail
continues bytes [] ss rest tail a b e = (ss, refl, subst (λ (l : List ℕ). Begins l ss tail) a b)
continues bytes (r ∷ rs) [] rest tail a b e = absurd (stands_on r bytes a.0 a.1 (subst EndsList (sym b) e))
continues bytes (r ∷ rs) (s ∷ ss) rest tail a b e =
    let k = stands_same r s bytes a.0 b.0 a.1 b.1 in
    let c = continues a.0 rs ss rest tail a.2 (subst (λ (l : List ℕ). Begins l ss tail) (sym k.1) b.2) e in
    (c.0, ap (λ (x : Resource). x ∷ ss) (sym k.0) ∙ ap (λ xs. r ∷ xs) c.1, c.2)

-- bytes that end inside a block have none at their front
pub cut_stands : (rest : List ℕ) (s : Resource) (m : List ℕ) → IsCut rest → Stands s rest m → ⊥
cut_stands rest s m (in_front more e l) t =
    let same = append_same signature signature _ _ refl (sym e ∙ t.is ∙ spelled s m) in
    let n : length more ≡ length s.code + (1 + length (s.name ++ (s.size ++ (s.body ++ (s.pad ++ m))))) =
    ap length same.1 ∙ length-append s.code _ ∙ ap (λ (k : ℕ). length s.code + k) (omega arith) in
    omega (arith, t.whole.code)
cut_stands rest s m (in_name code more named lc e l) t =
    let same = append_same signature signature _ _ refl (sym e ∙ t.is ∙ spelled s m) in
    let codes = append_same code s.code _ _ (lc ∙ sym t.whole.code) same.1 in
    let after : named ∷ more ≡ s.named ∷ (s.name ++ (s.size ++ (s.body ++ (s.pad ++ m)))) = codes.1 in
    let k : named ≡ s.named = cc after in
    let rest' : more ≡ s.name ++ (s.size ++ (s.body ++ (s.pad ++ m))) = cc after in
    let room : name_room named ≡ name_room s.named = ap name_room k in
    let n : length more ≡ length s.name + (length s.size + length (s.body ++ (s.pad ++ m))) =
    ap length rest' ∙ length-append s.name _ ∙ ap (λ (k : ℕ). length s.name + k) (length-append s.size _) in
    omega (arith, t.whole.name, t.whole.size)
cut_stands rest s m (in_body code name size more named lc ln ls e l) t =
    let same = append_same signature signature _ _ refl (sym e ∙ t.is ∙ spelled s m) in
    let codes = append_same code s.code _ _ (lc ∙ sym t.whole.code) same.1 in
    let after : named ∷ (name ++ (size ++ more)) ≡ s.named ∷ (s.name ++ (s.size ++ (s.body ++ (s.pad ++ m)))) = codes.1 in
    let k : named ≡ s.named = cc after in
    let rest' : name ++ (size ++ more) ≡ s.name ++ (s.size ++ (s.body ++ (s.pad ++ m))) = cc after in
    let names = append_same name s.name _ _ (ln ∙ ap name_room k ∙ sym t.whole.name) rest' in
    let sizes = append_same size s.size _ _ (ls ∙ sym t.whole.size) names.1 in
    let n : length more ≡ length s.body + length (s.pad ++ m) = ap length sizes.1 ∙ length-append s.body _ in
    let long : big_number 4 size ≡ length s.body = ap (big_number 4) sizes.0 ∙ t.whole.body in
    omega arith

pub cut_on : (rest : List ℕ) → IsCut rest → EndsList rest → ⊥
cut_on rest (in_front more e l) h = begins_signed more (subst EndsList e h)
cut_on rest (in_name code more named lc e l) h = begins_signed (code ++ (named ∷ more)) (subst EndsList e h)
cut_on rest (in_body code name size more named lc ln ls e l) h = begins_signed (code ++ (named ∷ (name ++ (size ++ more)))) (subst EndsList e h)

-- a list that ends has nothing more
pub nothing_more : (rest : List ℕ) (more : List Resource) (tail : List ℕ) → EndsList rest → Begins rest more tail → (more ≡ []) × (rest ≡ tail)
nothing_more rest [] tail e b = (refl, b)
nothing_more rest (r ∷ rs) tail e b = absurd (stands_on r rest b.0 b.1 e)

-- no list goes on from a block that is cut
pub cut_list : (rest : List ℕ) (more : List Resource) (tail : List ℕ) → IsCut rest → Begins rest more tail → EndsList tail → ⊥
cut_list rest [] tail c b e = cut_on rest c (subst EndsList (sym b) e)
cut_list rest (r ∷ rs) tail c b e = cut_stands rest r b.0 c b.1
