-- The readings of three operands between two operators.
use Rattle.std.proofs.Common.{◌≡◌, refl, sym, ap, ◌∙◌, subst, ◌+◌, ◌<◌, Bool, true, false, cond, ◌||◌, None, Some, List, [], ◌∷◌, ◌++◌, append-nil, length, slice_get, arith}
use Rattle.std.proofs.lemmas.List.{length-append}
use Rattle.elan_terms.specs.declared.tree.OpId.{OpId}
use Rattle.elan_terms.specs.declared.tree.Pattern.{Pattern}
use Rattle.elan_terms.proofs.TreeLemmas.{fold_pattern-app}
use Rattle.elan_program.specs.declared.signature.Piece.TheVariants.{Hole, Word}
use Rattle.elan_program.specs.declared.signature.Assoc.TheVariants as assoc
use Rattle.elan_program.specs.declared.signature.Operator.{Operator}
use Rattle.elan_program.specs.declared.signature.Signature.{Signature}
use Rattle.elan_reading.specs.declared.lexeme.Lexeme.{Lexeme}
use Rattle.elan_reading.specs.declared.lexeme.Variable.{Variable}
use Rattle.elan_reading.specs.declared.edge.Position.TheVariants.{First, Later}
use Rattle.elan_reading.specs.declared.edge.Side.{Side}
use Rattle.elan_reading.specs.declared.edge.Side.TheVariants.{Left, Right}
use Rattle.elan_reading.specs.Edge.{counted, fits, tie_of, is_one_hole}
use Rattle.elan_reading.specs.Readings.{Reads, Fills, head, passed, operator, group, done, word, hole}
use Rattle.elan_reading.proofs.EdgeLemmas.{own_left, own_right}
use Rattle.elan_reading.specs.Operands.{IsInfix, IsOperand, over, joined, in_parentheses}

some_before : (xs ys : List Lexeme) (token : Lexeme) → 0 < length (xs ++ token ∷ ys)
some_before xs ys token = let l : length (xs ++ token ∷ ys) ≡ length xs + length (token ∷ ys) = length-append xs (token ∷ ys) in omega arith

module _ (g : Signature) (vs : List Variable) (op : OpId) (o : Operator) (token : Lexeme) (between : IsInfix g op o token) where
  -- two runs whose trees may stand at the two edges
  infix_reads : (xs ys : List Lexeme) (x y : Pattern) (a b : Bool) → 0 < length xs → 0 < length ys → Reads g vs o.sort xs x a → Reads g vs o.sort ys y b
      → a || fits o Left (tie_of (head g x)) ≡ true → b || fits o Right (tie_of (head g y)) ≡ true
      → Reads g vs o.sort (joined xs token ys) (over op x y) false
  infix_reads xs ys x y a b m n r q e f =
      let last : Fills g vs o Later (Hole ∷ []) (o.sort ∷ []) ys (y ∷ []) =
      subst (λ l. Fills g vs o Later (Hole ∷ []) (o.sort ∷ []) l (y ∷ [])) (append-nil ys) (hole o Later [] o.sort [] ys [] y b [] n q f (done o Later)) in
      let middle : Fills g vs o Later (Word between.name ∷ Hole ∷ []) (o.sort ∷ []) (token ∷ ys) (y ∷ []) =
      word o Later between.name (Hole ∷ []) (o.sort ∷ []) token ys (y ∷ []) between.token_text last in
      let all : Fills g vs o First (Hole ∷ Word between.name ∷ Hole ∷ []) (o.sort ∷ o.sort ∷ []) (joined xs token ys) (x ∷ y ∷ []) =
      hole o First (Word between.name ∷ Hole ∷ []) o.sort (o.sort ∷ []) xs (token ∷ ys) x a (y ∷ []) m r e middle in
      operator op o (joined xs token ys) (x ∷ y ∷ []) between.there (ap is_one_hole between.spelling)
      (subst (λ ps. Fills g vs o First ps o.args (joined xs token ys) (x ∷ y ∷ [])) (sym between.spelling)
      (subst (λ ss. Fills g vs o First (Hole ∷ Word between.name ∷ Hole ∷ []) ss (joined xs token ys) (x ∷ y ∷ [])) (sym between.sorts) all))

  -- the first node is the operator
  node_first : (x y : Pattern) → head g (over op x y) ≡ Some o
  unfolding head
  node_first x y =
      fold_pattern-app (λ _ _. None) (λ _. None) (λ op below. passed g (slice_get g.operators op.0) below) op (x ∷ y ∷ [])
      ∙ ap (λ w. passed g w (head g x ∷ head g y ∷ [])) between.there
      ∙ ap (λ ps. cond (is_one_hole ps) (head g x) (Some o)) between.spelling

  left_fits : counted o ≡ assoc.Left → (x y : Pattern) → fits o Left (tie_of (head g (over op x y))) ≡ true
  left_fits side x y = ap (λ w. fits o Left (tie_of w)) (node_first x y) ∙ own_left o side

  right_fits : counted o ≡ assoc.Right → (x y : Pattern) → fits o Right (tie_of (head g (over op x y))) ≡ true
  right_fits side x y = ap (λ w. fits o Right (tie_of w)) (node_first x y) ∙ own_right o side

  operand_fits : (s : Side) (xs : List Lexeme) (x : Pattern) → IsOperand g vs o.sort xs x → fits o s (tie_of (head g x)) ≡ true
  operand_fits s xs x a = ap (fits o s) a.free

  two : (xs ys : List Lexeme) (x y : Pattern) → IsOperand g vs o.sort xs x → IsOperand g vs o.sort ys y → Reads g vs o.sort (joined xs token ys) (over op x y) false
  two xs ys x y a b = infix_reads xs ys x y false false a.some b.some a.read b.read (operand_fits Left xs x a) (operand_fits Right ys y b)

  pub to_left : counted o ≡ assoc.Left → (xs ys zs : List Lexeme) (x y z : Pattern) → IsOperand g vs o.sort xs x → IsOperand g vs o.sort ys y → IsOperand g vs o.sort zs z
      → Reads g vs o.sort (joined (joined xs token ys) token zs) (over op (over op x y) z) false
  to_left side xs ys zs x y z a b d =
      infix_reads (joined xs token ys) zs (over op x y) z false false (some_before xs ys token) d.some (two xs ys x y a b) d.read (left_fits side x y) (operand_fits Right zs z d)

  pub to_right : counted o ≡ assoc.Right → (xs ys zs : List Lexeme) (x y z : Pattern) → IsOperand g vs o.sort xs x → IsOperand g vs o.sort ys y → IsOperand g vs o.sort zs z
      → Reads g vs o.sort (joined xs token (joined ys token zs)) (over op x (over op y z)) false
  to_right side xs ys zs x y z a b d =
      infix_reads xs (joined ys token zs) x (over op y z) false false a.some (some_before ys zs token) a.read (two ys zs y z b d) (operand_fits Left xs x a) (right_fits side y z)

  pub grouped_first : (xs ys zs : List Lexeme) (x y z : Pattern) → IsOperand g vs o.sort xs x → IsOperand g vs o.sort ys y → IsOperand g vs o.sort zs z
      → Reads g vs o.sort (joined (in_parentheses (joined xs token ys)) token zs) (over op (over op x y) z) false
  grouped_first xs ys zs x y z a b d =
      infix_reads (in_parentheses (joined xs token ys)) zs (over op x y) z true false (omega arith) d.some (group o.sort (joined xs token ys) (over op x y) false (two xs ys x y a b)) d.read refl (operand_fits Right zs z d)
