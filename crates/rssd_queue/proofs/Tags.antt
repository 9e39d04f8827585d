-- A tag waits where a node of the order holds it.
use Rattle.std.proofs.Common.{◌≡◌, ℕ, ◌<◌, inl, inr, ◌||◌, Bool, true, false, eqb, List, [], ◌∷◌, refl, ap, ◌∙◌, arith}
use Rattle.std.proofs.lemmas.Bool.{cases_eq, eq-eqb, ne_eqb}
use Rattle.block_links.specs.Lists.{times}
use Rattle.block_links.proofs.Times.{times-head, times-tail}
use Rattle.rssd_queue.specs.declared.ask.Tagged.{Tagged}
use Rattle.rssd_queue.specs.Waiting.{waits}
use Rattle.rssd_queue.specs.Kept.{in_node, commands_in}

or-true : (a : Bool) → a || true ≡ true
or-true true = refl
or-true false = refl

pub tag_found : (nodes : List Tagged) (ws : List ℕ) (n tag : ℕ) → 0 < times n ws → (in_node nodes n).tag ≡ tag → waits (commands_in nodes ws) tag ≡ true
tag_found nodes [] n tag some is = absurd (omega arith)
tag_found nodes (x ∷ ws) n tag some is = elim (cases_eq x n) [
  | inl same ↦ rw (eq-eqb (in_node nodes x).tag tag (ap (λ m. (in_node nodes m).tag) same ∙ is)) refl
  | inr other ↦ ap (λ b. eqb (in_node nodes x).tag tag || b) (tag_found nodes ws n tag (let t = times-tail n x ws other in omega arith) is) ∙ or-true (eqb (in_node nodes x).tag tag)
]

pub tag_absent : (nodes : List Tagged) (ws : List ℕ) (tag : ℕ) → ((n : ℕ) → 0 < times n ws → (in_node nodes n).tag ≡ tag → ⊥) → waits (commands_in nodes ws) tag ≡ false
tag_absent nodes [] tag none = refl
tag_absent nodes (x ∷ ws) tag none =
    rw (ne_eqb (in_node nodes x).tag tag (none x (let t = times-head x ws in omega arith))) (tag_absent nodes ws tag (λ n some. none n (omega arith)))
