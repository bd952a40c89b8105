-- What a core requires, beside what is handed on to it: nothing, or a fact.
-- Assumes nothing.
use seplogic.Ra.Ura.{Ura}
use base.Logic.{SProp, ent, sep, emp, via, comm∗, emp∗, mono_l}
use contract.Monad.{fact, fact_i}

module _ {M : Type 1} (𝓤 : Ura M) (P : SProp 𝓤) where
  pub with-emp : ent 𝓤 P (sep 𝓤 P (emp 𝓤))
  with-emp = via 𝓤 (sep 𝓤 (emp 𝓤) P) (emp∗ 𝓤 P) (comm∗ 𝓤 (emp 𝓤) P)

  pub with_fact : {φ : Type 0} → φ → ent 𝓤 P (sep 𝓤 P (fact 𝓤 φ))
  with_fact {φ} x = via 𝓤 (sep 𝓤 (emp 𝓤) P) (emp∗ 𝓤 P) (via 𝓤 (sep 𝓤 (fact 𝓤 φ) P) (mono_l 𝓤 P (fact_i 𝓤 φ (emp 𝓤) x)) (comm∗ 𝓤 (fact 𝓤 φ) P))
