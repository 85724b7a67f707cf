-- A line is one thing.
use Rattle.std.proofs.Common.{◌≡◌, ℕ, ◌/◌, ◌%◌, ◌≤◌, ◌<◌, List, [], ◌∷◌, length, codes, Option, Some, None, Ok, refl}
use Rattle.std.proofs.Common.{sym, ap, subst, ◌∙◌, arith, inl, inr}
use Rattle.hex.specs.Hex.{decode_sized, decode_pairs}
use Rattle.uecp_frame.specs.Frame.{high_first}
use Rattle.uecp_text.specs.Words.{words, IsNumber}
use Rattle.uecp_text.specs.Input.{said}
use Rattle.rds_groups.specs.declared.heard.HeardGroup.{HeardGroup}
use Rattle.receive_command.specs.declared.group_lines.group_line.GroupLine.{GroupLine}
use Rattle.receive_command.specs.declared.group_lines.group_line.GroupLine.TheVariants.{Nothing, Group, NoGroup}
use Rattle.receive_command.specs.GroupLines.{IsBlock, AreBlocks, IsText, IsLine, IsTaken}
use Rattle.receive_command.specs.Laws.{IsOneThing}

one_number : (w : List ℕ) (a b : ℕ) → IsNumber w a → IsNumber w b → a ≡ b
one_number w a b p q =
    let e : Ok (high_first a) ≡ Ok (high_first b) = sym p ∙ q in
    let high : a / 0x100 ≡ b / 0x100 = cc in
    let low : a % 0x100 ≡ b % 0x100 = cc in
    omega (arith, high, low)

no_number : (w : List ℕ) (a : ℕ) → w ≡ codes "----" → IsNumber w a → ⊥
unfolding decode_pairs
no_number w a is p =
    let e : decode_sized (codes "----") 2 ≡ Ok (high_first a) =
    subst (λ x. decode_sized x 2 ≡ Ok (high_first a)) is p in
    cc e

one_block : (w : List ℕ) (a b : Option ℕ) → IsBlock w a → IsBlock w b → a ≡ b
one_block w None None p q = refl
one_block w None (Some n) p q = absurd (no_number w n p q)
one_block w (Some n) None p q = absurd (no_number w n q p)
one_block w (Some m) (Some n) p q = ap (λ k. Some k) (one_number w m n p q)

abbrev group_with : (a b c d : Option ℕ) → HeardGroup
group_with a b c d = record { block1 = a; block2 = b; block3 = c; block4 = d }

same_group : (g h : HeardGroup) → g.block1 ≡ h.block1 → g.block2 ≡ h.block2 → g.block3 ≡ h.block3
    → g.block4 ≡ h.block4 → g ≡ h
same_group g h one two three four =
    ap (λ x. group_with x g.block2 g.block3 g.block4) one ∙ ap (λ x. group_with h.block1 x g.block3 g.block4) two
    ∙ ap (λ x. group_with h.block1 h.block2 x g.block4) three ∙ ap (λ x. group_with h.block1 h.block2 h.block3 x) four

same_block : (v w : List ℕ) (a b : Option ℕ) → v ≡ w → IsBlock v a → IsBlock w b → a ≡ b
same_block v w a b same p q = one_block w a b (subst (λ x. IsBlock x a) same p) q

one_group : (ws : List (List ℕ)) (g h : HeardGroup) → AreBlocks ws g → AreBlocks ws h → g ≡ h
one_group ws g h (a, b, c, d, e, p, q, r, s) (a', b', c', d', e', p', q', r', s') =
    let same : a ∷ b ∷ c ∷ d ∷ [] ≡ a' ∷ b' ∷ c' ∷ d' ∷ [] = sym e ∙ e' in
    same_group g h (same_block a a' g.block1 h.block1 (cc same) p p') (same_block b b' g.block2 h.block2 (cc same) q q')
    (same_block c c' g.block3 h.block3 (cc same) r r') (same_block d d' g.block4 h.block4 (cc same) s s')

one_text : (text : List ℕ) (one other : GroupLine) → IsText text one → IsText text other → one ≡ other
one_text text Nothing other p q = absurd p
one_text text (Group g) Nothing p q = absurd q
one_text text (Group g) (Group h) p q = ap (λ x. Group x) (one_group (words text) g h p q)
one_text text (Group g) NoGroup p q = absurd (q g p)
one_text text NoGroup Nothing p q = absurd q
one_text text NoGroup (Group h) p q = absurd (p h q)
one_text text NoGroup NoGroup p q = refl

one_line : (line : List ℕ) (one other : GroupLine) → IsLine line one → IsLine line other → one ≡ other
one_line line one other (inl (none, is)) (inl (none', is')) = is ∙ sym is'
one_line line one other (inl (none, is)) (inr (text, some, of)) =
    let e : None ≡ Some text = sym none ∙ some in absurd (cc e)
one_line line one other (inr (text, some, of)) (inl (none, is)) =
    let e : None ≡ Some text = sym none ∙ some in absurd (cc e)
one_line line one other (inr (text, some, of)) (inr (text', some', of')) =
    let e : Some text ≡ Some text' = sym some ∙ some' in
    let same : text ≡ text' = cc in
    one_text text' one other (subst (λ x. IsText x one) same of) of'

pub one_thing : IsOneThing
one_thing line one other (inl (short, is)) (inl (short', is')) = one_line line one other is is'
one_thing line one other (inl (short, is)) (inr (long, is')) = absurd (omega (arith, short, long))
one_thing line one other (inr (long, is)) (inl (short, is')) = absurd (omega (arith, short, long))
one_thing line one other (inr (long, is)) (inr (long', is')) = is ∙ sym is'
