-- The test whether a way leads from one node to another is exact.
use Rattle.std.proofs.Common.{◌≡◌, refl, sym, subst, ◌∙◌, ◌⊎◌, inl, inr, ⊎_elim, ℕ, zero, suc, ◌≤◌, Bool, true, false, ◌==◌, cond, ◌↔◌, List, [], ◌∷◌, map, length, arith}
use Rattle.std.specs.List.{filter}
use Rattle.std.specs.Cmp.{unsigned_Decides}
use Rattle.std.proofs.lemmas.List.Folds.{list_any-append}
use Rattle.std.proofs.lemmas.Bool.{or_cases, or_left, or_right}
use Rattle.elan_cycles.specs.declared.edge.Edge.{Edge}
use Rattle.elan_cycles.specs.Edges.{Path, here, along, edge}
use Rattle.elan_cycles.specs.Search.{is_among, grown, reached, leads}
use Rattle.elan_cycles.proofs.Elements.{Has, here as at_front, there, has_contains, contains_has, true-is_no-false, any-kept, kept-any}

pub same_number : (a b : ℕ) → (a == b) ≡ true → a ≡ b
same_number a b e = (unsigned_Decides a b).0 e

number_same : (a : ℕ) → (a == a) ≡ true
number_same a = (unsigned_Decides a a).1 refl

module _ (edges : List Edge) where
  -- the ends of edges that begin at these nodes
  abbrev ends : List ℕ → List ℕ
  ends nodes = map (λ e. e.to) (filter (λ e. is_among e.from nodes) edges)

  -- a node of those that have grown was there, or an edge leads to it
  grown_cases : (node : ℕ) (nodes : List ℕ) → is_among node (grown edges nodes) ≡ true
      → (is_among node nodes ≡ true) ⊎ ((e : Edge) × Has e edges × (is_among e.from nodes ≡ true) × (e.to ≡ node))
  unfolding grown
  grown_cases node nodes h =
      ⊎_elim inl
      (λ some. let k = kept-any (λ e. e.to) (λ e. is_among e.from nodes) (λ n. n == node) edges some in
      inr (k.0, k.1, k.2, same_number k.0.to node k.3))
      (or_cases (is_among node nodes) (is_among node (ends nodes)) (sym (list_any-append (λ n. n == node) nodes (ends nodes)) ∙ h))

  grown_keeps : (node : ℕ) (nodes : List ℕ) → is_among node nodes ≡ true → is_among node (grown edges nodes) ≡ true
  unfolding grown
  grown_keeps node nodes h =
      list_any-append (λ n. n == node) nodes (ends nodes) ∙ or_left (is_among node nodes) (is_among node (ends nodes)) h

  grown_by : (e : Edge) (nodes : List ℕ) → Has e edges → is_among e.from nodes ≡ true → is_among e.to (grown edges nodes) ≡ true
  unfolding grown
  grown_by e nodes has h =
      list_any-append (λ n. n == e.to) nodes (ends nodes)
      ∙ or_right (is_among e.to nodes) (is_among e.to (ends nodes))
      (any-kept (λ e. e.to) (λ e. is_among e.from nodes) (λ n. n == e.to) e edges has h (number_same e.to))

  -- ---- what is reached has a way

  -- a way from one of these nodes
  abbrev From : List ℕ → ℕ → Type 0
  From nodes b = (a : ℕ) × (is_among a nodes ≡ true) × Path edges a b

  from_grown : (nodes : List ℕ) (b : ℕ) → From (grown edges nodes) b → From nodes b
  from_grown nodes b f =
      ⊎_elim (λ was. (f.0, was, f.2))
      (λ by. (by.0.from, by.2, along (contains_has by.0 edges by.1) (subst (λ n. Path edges n b) (sym by.3) f.2)))
      (grown_cases f.0 nodes f.1)

  has_way : (n : ℕ) (nodes : List ℕ) (b : ℕ) → is_among b (reached edges n nodes) ≡ true → From nodes b
  unfolding reached
  has_way zero nodes b h = (b, h, here)
  has_way (suc n) nodes b h = from_grown nodes b (has_way n (grown edges nodes) b h)

  -- ---- what has a way is reached

  -- each edge that begins at one of these nodes ends at one
  abbrev Closed : List ℕ → Type 0
  Closed nodes = (e : Edge) → Has e edges → is_among e.from nodes ≡ true → is_among e.to nodes ≡ true

  closed_grown : (nodes : List ℕ) → Closed nodes → Closed (grown edges nodes)
  closed_grown nodes closed e has h =
      ⊎_elim (λ was. grown_keeps e.to nodes (closed e has was))
      (λ by. grown_keeps e.to nodes (closed e has (subst (λ n. is_among n nodes ≡ true) by.3 (closed by.0 by.1 by.2))))
      (grown_cases e.from nodes h)

  closed_reached : (n : ℕ) (nodes : List ℕ) → Closed nodes → Closed (reached edges n nodes)
  unfolding reached
  closed_reached zero nodes closed = closed
  closed_reached (suc n) nodes closed = closed_reached n (grown edges nodes) (closed_grown nodes closed)

  reached_keeps : (n : ℕ) (nodes : List ℕ) (node : ℕ) → is_among node nodes ≡ true → is_among node (reached edges n nodes) ≡ true
  unfolding reached
  reached_keeps zero nodes node h = h
  reached_keeps (suc n) nodes node h = reached_keeps n (grown edges nodes) node (grown_keeps node nodes h)

  -- how many edges end at none of these nodes
  abbrev missing : List Edge → List ℕ → ℕ
  missing [] nodes = 0
  missing (e ∷ es) nodes = cond (is_among e.to nodes) (missing es nodes) (suc (missing es nodes))

  missing_le : (es : List Edge) (nodes : List ℕ) → missing es nodes ≤ length es
  missing_le [] nodes = omega arith
  missing_le (e ∷ es) nodes = by_case (is_among e.to nodes) (missing_le es nodes)
    where
      by_case : (b : Bool) → missing es nodes ≤ length es → cond b (missing es nodes) (suc (missing es nodes)) ≤ suc (length es)
      by_case true h = omega (arith, h)
      by_case false h = omega (arith, h)

  missing_none : (es : List Edge) (nodes : List ℕ) → missing es nodes ≤ 0 → (e : Edge) → Has e es → is_among e.to nodes ≡ true
  missing_none [] nodes none e has = elim has [ ]
  missing_none (d ∷ es) nodes none e has =
      by_case (is_among d.to nodes) refl (λ fewer later. missing_none es nodes fewer e later) none has
    where
      by_case : (b : Bool) → is_among d.to nodes ≡ b → (missing es nodes ≤ 0 → Has e es → is_among e.to nodes ≡ true)
          → cond b (missing es nodes) (suc (missing es nodes)) ≤ 0 → Has e (d ∷ es) → is_among e.to nodes ≡ true
      by_case true is rest none (at_front same) = subst (λ (x : Edge). is_among x.to nodes ≡ true) same is
      by_case true is rest none (there has) = rest none has
      by_case false is rest none has = absurd (omega (arith, none))

  missing_fewer : (es : List Edge) (nodes more : List ℕ) → ((n : ℕ) → is_among n nodes ≡ true → is_among n more ≡ true)
      → missing es more ≤ missing es nodes
  missing_fewer [] nodes more keeps = omega arith
  missing_fewer (e ∷ es) nodes more keeps =
      by_case (is_among e.to nodes) (is_among e.to more) refl refl (missing_fewer es nodes more keeps)
    where
      by_case : (b c : Bool) → is_among e.to nodes ≡ b → is_among e.to more ≡ c → missing es more ≤ missing es nodes
          → cond c (missing es more) (suc (missing es more)) ≤ cond b (missing es nodes) (suc (missing es nodes))
      by_case true true is now h = h
      by_case true false is now h = absurd (true-is_no-false (sym (keeps e.to is) ∙ now))
      by_case false true is now h = omega (arith, h)
      by_case false false is now h = omega (arith, h)

  missing_less : (es : List Edge) (nodes more : List ℕ) → ((n : ℕ) → is_among n nodes ≡ true → is_among n more ≡ true)
      → (d : Edge) → Has d es → is_among d.to nodes ≡ false → is_among d.to more ≡ true
      → suc (missing es more) ≤ missing es nodes
  missing_less [] nodes more keeps d has was now = elim has [ ]
  missing_less (e ∷ es) nodes more keeps d (at_front same) was now =
      by_case (is_among e.to nodes) (is_among e.to more) (subst (λ (x : Edge). is_among x.to nodes ≡ false) (sym same) was)
      (subst (λ (x : Edge). is_among x.to more ≡ true) (sym same) now) (missing_fewer es nodes more keeps)
    where
      by_case : (b c : Bool) → b ≡ false → c ≡ true → missing es more ≤ missing es nodes
          → suc (cond c (missing es more) (suc (missing es more))) ≤ cond b (missing es nodes) (suc (missing es nodes))
      by_case true c is now h = absurd (true-is_no-false is)
      by_case false true is now h = omega (arith, h)
      by_case false false is now h = absurd (true-is_no-false (sym now))
  missing_less (e ∷ es) nodes more keeps d (there has) was now =
      by_case (is_among e.to nodes) (is_among e.to more) refl refl (missing_less es nodes more keeps d has was now)
    where
      by_case : (b c : Bool) → is_among e.to nodes ≡ b → is_among e.to more ≡ c → suc (missing es more) ≤ missing es nodes
          → suc (cond c (missing es more) (suc (missing es more))) ≤ cond b (missing es nodes) (suc (missing es nodes))
      by_case true true is now h = h
      by_case true false is now h = absurd (true-is_no-false (sym (keeps e.to is) ∙ now))
      by_case false true is now h = omega (arith, h)
      by_case false false is now h = omega (arith, h)

  -- an edge of these leads from the nodes to another one
  abbrev LeadsOut : List Edge → List ℕ → Type 0
  LeadsOut es nodes = (e : Edge) × Has e es × (is_among e.from nodes ≡ true) × (is_among e.to nodes ≡ false)

  abbrev ClosedFor : List Edge → List ℕ → Type 0
  ClosedFor es nodes = (e : Edge) → Has e es → is_among e.from nodes ≡ true → is_among e.to nodes ≡ true

  closed_or_not : (nodes : List ℕ) (es : List Edge) → ClosedFor es nodes ⊎ LeadsOut es nodes
  closed_or_not nodes [] = inl (λ e has h. elim has [ ])
  closed_or_not nodes (d ∷ es) = by_case (is_among d.from nodes) (is_among d.to nodes) refl refl (closed_or_not nodes es)
    where
      still : (is_among d.from nodes ≡ true → is_among d.to nodes ≡ true) → ClosedFor es nodes → ClosedFor (d ∷ es) nodes
      still first rest e (at_front same) h =
          subst (λ (x : Edge). is_among x.to nodes ≡ true) same
          (first (subst (λ (x : Edge). is_among x.from nodes ≡ true) (sym same) h))
      still first rest e (there has) h = rest e has h

      by_case : (b c : Bool) → is_among d.from nodes ≡ b → is_among d.to nodes ≡ c → ClosedFor es nodes ⊎ LeadsOut es nodes
          → ClosedFor (d ∷ es) nodes ⊎ LeadsOut (d ∷ es) nodes
      by_case b c is to (inr out) = inr (out.0, there out.1, out.2, out.3)
      by_case b true is to (inl rest) = inl (still (λ h. to) rest)
      by_case true false is to (inl rest) = inr (d, at_front refl, is, to)
      by_case false false is to (inl rest) = inl (still (λ h. absurd (true-is_no-false (sym h ∙ is))) rest)

  -- after as many turns as edges end elsewhere, no edge leads out
  closed_after : (n : ℕ) (nodes : List ℕ) → missing edges nodes ≤ n → Closed (reached edges n nodes)
  unfolding reached
  closed_after zero nodes h = λ e has from. missing_none edges nodes h e has
  closed_after (suc n) nodes h =
      ⊎_elim (λ closed. closed_reached n (grown edges nodes) (closed_grown nodes closed))
      (λ out. closed_after n (grown edges nodes)
      (let less = missing_less edges nodes (grown edges nodes) (λ m. grown_keeps m nodes) out.0 out.1 out.3
      (grown_by out.0 nodes out.1 out.2) in omega (arith, h, less)))
      (closed_or_not nodes edges)

  follows : (nodes : List ℕ) → Closed nodes → {a b : ℕ} → Path edges a b → is_among a nodes ≡ true → is_among b nodes ≡ true
  follows nodes closed here h = h
  follows nodes closed (along {a = a} {b = m} e p) h = follows nodes closed p (closed (edge a m) (has_contains edges (edge a m) e) h)

  -- ---- exact

  pub leads-way : (a b : ℕ) → leads edges a b ≡ true → Path edges a b
  unfolding leads
  leads-way a b h =
      let f = has_way (length edges) (a ∷ []) b h in
      subst (λ n. Path edges n b) (alone f.0 f.1) f.2
    where
      alone : (n : ℕ) → is_among n (a ∷ []) ≡ true → n ≡ a
      alone n e = ⊎_elim (λ same. sym (same_number a n same)) (λ no. absurd (true-is_no-false (sym no))) (or_cases (a == n) false e)

  pub way-leads : (a b : ℕ) → Path edges a b → leads edges a b ≡ true
  unfolding leads
  way-leads a b p =
      follows (reached edges (length edges) (a ∷ [])) (closed_after (length edges) (a ∷ []) (missing_le edges (a ∷ []))) p
      (reached_keeps (length edges) (a ∷ []) a (or_left (a == a) false (number_same a)))

  pub leads_exactly : (a b : ℕ) → (leads edges a b ≡ true) ↔ Path edges a b
  leads_exactly a b = (leads-way a b, way-leads a b)
