-- A `&` to the one token holds what one to the other does.
use Rattle.std.proofs.Common.{◌≡◌, ℕ, List, [], ◌∷◌, refl}
use mir.Syntax.{Body, seq, skip, assign, block, loop, cond, switch, exit, return, unreachable, lend_static, call, call_v, a_type, dcons, dnil, named}
use mir.Val.{Val, vptr}
use mir.MapTy.{inst_fn}
use base.Logic.{SProp, emp, id⊢}
use base.Fml.{Lft}
use types.Kit.{‵, raw, ◌⊛◌, at_ret, ◌$◌, ◌∵◌, !, qed, by, keep, use0, use1, split, fsplit, fjoin, feq_i}
use types.Run.{stop, addr, of_opd, first, blocks, exec, returns, enter}
use types.ByLocal.{alloc_all, pass_all, free_all, look_at, get, through, sets, sets_last, env}
use contract.Running.{tables}
use contract.Monad.{fact, fact_i}
use denote.Exit.{yes}
use denote.RattleType.{RattleType, owns}
use denote.Signature.{types_at, plain}
use denote.Steps.{nothing}
use denote.Memory.{hidden_shr}
use denote.Param.{param, bounded}
use denote.Builtin.{RefOf}
use denote.Ref.{shr_vals, shr_Tells}
use denote.Triple.Walked.{Stays, stay_dropped, walk_of, Goes-dropped}
use Rattle.atomic_table.proofs.Walks.{proved, leaves}
use Rattle.elan_table.specs.contracts.spot.Spot as Spot
use Rattle.elan_terms.specs.contracts.tree.Term as Term
use Rattle.elan_table.specs.contracts.row.Row as Row
use Rattle.elan_table.specs.contracts.spot.of_terms.{ended, clauses}
use Rattle.elan_table.specs.contracts.spot.of_terms.Key.{name as #self}
use Rattle.elan_table.proofs.spot.of_terms.Statement.{statement}
use Rattle.elan_table.proofs.spot.of_terms.Code as code

abbrev tail : Body → Body
tail (seq a b) = b
tail (block a) = skip
tail skip = skip
tail (assign p r) = skip
tail (loop a) = skip
tail (cond c a b) = skip
tail (switch c x) = skip
tail (exit k) = skip
tail return = skip
tail unreachable = skip
tail (lend_static p τ c) = skip
tail (call f xs d) = skip
tail (call_v c ς xs d) = skip

pub of_terms_spec : {M : Type 1} → statement M
of_terms_spec 𝓤 𝓛 𝓜 𝓡 wired N L g d met =
    let H = 𝓛.H in let 𝓣 = tables 𝓤 H 𝓜 𝓡 𝓡.env in let R : RattleType = param 0 N in
    let S : RattleType = Spot.the_row (Row.the_row R g) in let P : RattleType = Spot.the_row Term.the_row in let En = ended N g d in
    let inst = bounded (a_type ∷ []) (N, tt) (dcons d dnil) in let fn = inst_fn inst code.function in let c = clauses N g d 𝓛 𝓜.mem 𝓡.returns in
    let self = RefOf (0 ∷ []) tt (plain (λ _. S)) (λ _. tt) in let hs : Stays En.signature.params En.kept = (stay_dropped self yes, tt) in
    proved 𝓛 En hs c 𝓜 𝓡 (Goes-dropped 𝓛 2 self yes (λ κs x f. refl), tt) (#self inst) fn (code.unfolded 𝓤 H 𝓜 𝓡 wired (N, tt) d)
    (λ κs. (shr_vals, tt)) (λ κs. (shr_Tells (named 0) κs.0 S, tt)) (λ κs qs bounds a gh are.
    let b : ℕ = a.0.ref_ptr.0 in let o : ℕ = a.0.ref_ptr.1 in let x = a.0.now in let κ : Lft = κs.0 in
    let r : P.Denot = record { chunk = record { marker = record {}; of = x.chunk.of; value = x.chunk.value }; item = record { marker = record {}; of = x.item.of; value = x.item.value } } in
    let Told : Type 0 = (x.chunk.of ≡ x.chunk.of) × (x.chunk.value.items ≡ x.chunk.value.items) × (x.item.of ≡ x.item.of) × (x.item.value ≡ x.item.value) in
    let y : (walk_of 𝓛 En hs c).Ghost = ((κs, qs, bounds, a, (vptr b o ∷ [], tt)), gh) in let Post : Val → SProp 𝓤 = (walk_of 𝓛 En hs c).post y in
    qed 𝓛 ((raw (denote.Triple.Entry.alive 𝓛 En.signature κs qs) ⊛ ‵ (owns (types_at En.signature.params κs) a y.0.4)) ∷ raw ((c κs a).requires gh) ∷ []) ∵
    split ! $ keep ! (1 ∷ 0 ∷ []) $ fsplit ! $ fsplit ! $ keep ! (1 ∷ 3 ∷ []) $ use1 𝓛 (‵ (hidden_shr P κ r b o)) (id⊢ 𝓤 _) $
    enter ! 𝓣.C 𝓣.Λ fn (vptr b o ∷ []) Post $ alloc_all ! (λ l. pass_all ! refl ((tt, tt), tt) $ let Ev = env fn.locals l in
    first ! $ blocks ! $ sets ! (addr ! (through ! refl (stop !))) refl (tt, tt) $ sets ! (of_opd ! (get ! refl)) refl (tt, tt) $ sets_last ! (addr ! (through ! refl (stop !))) refl (tt, tt) $
    exec ! 𝓣.C 𝓣.Λ Ev (tail fn.body) (at_ret Ev Post) $ sets ! (of_opd ! (get ! refl)) refl (tt, tt) $
    feq_i ! (List Val) (vptr b o ∷ []) (vptr b o ∷ []) refl $ fjoin ! $
    use0 𝓛 (raw (fact 𝓤 Told)) (fact_i 𝓤 Told (emp 𝓤) (refl, refl, refl, refl)) $ nothing ! $ nothing ! $ fjoin ! $
    returns ! (look_at ! 0 refl) $ free_all ! refl $ keep ! (3 ∷ 0 ∷ 2 ∷ 1 ∷ []) $
    by ! (leaves 𝓛 En hs c y (vptr b o) (record { ref_ptr = (b, o); now = r }) (tt, tt) (tt, tt))))
