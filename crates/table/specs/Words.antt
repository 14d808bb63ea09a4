-- The table that a list of words stands for. Assumes nothing.
-- 2.10: word 0: symbols · 2⁸ + productions. Words 1 to 32: synthesized · 2⁸ + inherited. Words 33 to 96: left · 2⁴⁰ + child count · 2³² + four child bytes.
-- 2.11: then, for each production, 20 slots of two words, the head and the constant of an equation: slot 4 · position + index mod 4 of the set that it defines.
-- 2.8, 2.9: the top field of a word takes all that is above it, so that any words are a table; words that no count reaches are no part of it.
use Rattle.std.specs.Prelude.{ℕ, zero, suc, ◌+◌, ◌-◌, ◌*◌, ◌/◌, ◌%◌, Bool, cond, ◌&&◌, List, [], ◌∷◌, leb, ltb, get_or}

-- so many words a table has
abbrev pub table_words : ℕ
table_words = 2657

-- 2.1: how many symbols there are
unfoldable pub symbol_count : List ℕ → ℕ
symbol_count t = get_or t 0 0 / 256

-- 2.1: how many productions
unfoldable pub production_count : List ℕ → ℕ
production_count t = get_or t 0 0 % 256

-- 2.2: how many synthesized and how many inherited sets a symbol declares
unfoldable pub synthesized : List ℕ → ℕ → ℕ
synthesized t s = get_or t (1 + s) 0 / 256

unfoldable pub inherited : List ℕ → ℕ → ℕ
inherited t s = get_or t (1 + s) 0 % 256

-- 2.4: a production's left symbol, and how many children it has
unfoldable pub left_of : List ℕ → ℕ → ℕ
left_of t p = get_or t (33 + p) 0 / 1099511627776

unfoldable pub child_count : List ℕ → ℕ → ℕ
child_count t p = get_or t (33 + p) 0 / 4294967296 % 256

-- 2.10: the place of child k's byte in a production's word, as a divisor
abbrev pub place : ℕ → ℕ
place zero = 16777216
place (suc zero) = 65536
place (suc (suc zero)) = 256
place (suc (suc (suc k))) = 1

-- 2.4: the symbol of child k, counted from 0
unfoldable pub child_of : List ℕ → ℕ → ℕ → ℕ
child_of t p k = get_or t (33 + p) 0 / place k % 256

-- 2.4: n children from child k on, and all of them
unfoldable pub children_from : List ℕ → ℕ → ℕ → ℕ → List ℕ
children_from t p zero k = []
children_from t p (suc n) k = child_of t p k ∷ children_from t p n (suc k)

abbrev pub children : List ℕ → ℕ → List ℕ
children t p = children_from t p (child_count t p) 0

-- 2.6: the symbol at a position, 0 being the left one and k + 1 child k
abbrev pub symbol_at : List ℕ → ℕ → ℕ → ℕ
symbol_at t p zero = left_of t p
symbol_at t p (suc k) = child_of t p k

-- 2.5: how many equations a position has: of the left symbol one for each synthesized set, of a child one for each inherited one
abbrev pub defined : List ℕ → ℕ → ℕ → ℕ
defined t p zero = synthesized t (left_of t p)
defined t p (suc k) = inherited t (child_of t p k)

-- 2.2: symbol s declares a set with the index i
unfoldable pub has_set : List ℕ → ℕ → ℕ → Bool
has_set t s i = cond (ltb i 4) (ltb i (synthesized t s)) (ltb (i - 4) (inherited t s))

-- 2.6: production p has position q, and the symbol there declares index i
unfoldable pub occurs : List ℕ → ℕ → ℕ → ℕ → Bool
occurs t p q i = leb q (child_count t p) && has_set t (symbol_at t p q) i

-- 2.11: the rule of production p for equation k of position q, and the rule's two words
unfoldable pub rule_of : ℕ → ℕ → ℕ → ℕ
rule_of p q k = 20 * p + (4 * q + k)

unfoldable pub head_at : List ℕ → ℕ → ℕ
head_at t rule = get_or t (97 + 2 * rule) 0

unfoldable pub constant_at : List ℕ → ℕ → ℕ
constant_at t rule = get_or t (98 + 2 * rule) 0
