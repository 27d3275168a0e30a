-- Chains of a length, and that `gcroot` has one reply.
use Rattle.hd_model.proofs.Basics.{◌≡◌, ℕ, ◌<◌, suc, List, Option, Some, sym, ◌∙◌, subst, inl, inr, ◌⊎◌, Contains, le_antisymm}
use Rattle.hd_model.specs.Data.{Id, Reply}
use Rattle.hd_model.specs.declared.data.Reply.TheVariants as reply
use Rattle.hd_model.specs.State.{State}
use Rattle.hd_model.specs.Leads.{Leads}
use Rattle.hd_model.specs.Scene.{Scene, generation_at}
use Rattle.hd_model.specs.Reach.{IsRoot, named, queued, held, older}
use Rattle.hd_model.specs.Anchors.{LeadsIn, IsShortest, IsAnchor, in_static, in_queue, by_handle, EdgeOf, ReturnsRoot}

module _ {N : Type 0} {E : N → N → Type 0} where
  -- a chain has a number of edges, and what has one is a chain
  pub some_edges : {x y : N} → Leads E x y → (k : ℕ) × LeadsIn E k x y
  some_edges Leads.here = (0, LeadsIn.start)
  some_edges (Leads.more chain e) = let (k, c) = some_edges chain in (suc k, LeadsIn.step c e)

  pub leads : {k : ℕ} {x y : N} → LeadsIn E k x y → Leads E x y
  leads LeadsIn.start = Leads.here
  leads (LeadsIn.step chain e) = Leads.more (leads chain) e

  -- a shortest chain depends on which the anchors are alone
  pub shortest_like : {A B : N → Type 0} {rank : N → ℕ} {goal from : N} {k : ℕ} → ((x : N) → A x → B x)
      → ((x : N) → B x → A x) → IsShortest E A rank goal from k → IsShortest E B rank goal from k
  shortest_like to back c = record {
    anchor = to _ c.anchor;
    chain = c.chain;
    shortest = λ x j a. c.shortest x j (back x a);
    least = λ x a. c.least x (back x a);
  }

module _ {N : Type 0} {s : Scene N} {x : N} (n : ℕ) where
  -- an anchor is a root, and a root is an anchor but for registers, or an object of an older generation
  pub anchor_root : {xs : List (Option N)} → ((y : N) → Contains xs (Some y) → Contains s.named (Some y))
      → IsAnchor xs s x → IsRoot s n x
  anchor_root in_named (in_static h) = named (in_named x h)
  anchor_root in_named (in_queue h) = queued h
  anchor_root in_named (by_handle h) = held h

  pub root_anchor : IsRoot s n x → IsAnchor s.named s x ⊎ (n < generation_at s.object x)
  root_anchor (named h) = inl (in_static h)
  root_anchor (queued h) = inl (in_queue h)
  root_anchor (held h) = inl (by_handle h)
  root_anchor (older l) = inr l

-- the reply to `gcroot` on an object is unique
pub one_root : (s : State) (goal : Id) (r q : Reply) → ReturnsRoot s goal r → ReturnsRoot s goal q → r ≡ q
one_root s goal r q (inl a) (inl b) =
    let e : a.edges ≡ b.edges =
    le_antisymm (a.shortest.shortest b.from b.edges b.shortest.anchor b.shortest.chain)
    (b.shortest.shortest a.from a.edges a.shortest.anchor a.shortest.chain) in
    let f : a.from.0 ≡ b.from.0 =
    le_antisymm
    (a.shortest.least b.from b.shortest.anchor
    (subst (λ k. LeadsIn (EdgeOf s) k b.from goal) (sym e) b.shortest.chain))
    (b.shortest.least a.from a.shortest.anchor
    (subst (λ k. LeadsIn (EdgeOf s) k a.from goal) e a.shortest.chain)) in
    a.reply_is ∙ (λ i. reply.Chain (record { 0 = f i }) (e i)) ∙ sym b.reply_is
one_root s goal r q (inl a) (inr b) = absurd (b.0 a.from a.shortest.anchor (leads a.shortest.chain))
one_root s goal r q (inr a) (inl b) = absurd (a.0 b.from b.shortest.anchor (leads b.shortest.chain))
one_root s goal r q (inr a) (inr b) = a.1 ∙ sym b.1
