-- What a look-up, slot by slot from the front, comes to.
use Rattle.std.proofs.Common.{◌≡◌, ℕ, ◌+◌, ◌<◌, ◌≤◌, List, length, get_or, drop, None, Option, sym, ap, ◌∙◌}
use Rattle.std.proofs.lemmas.List.{at_drop_more, at_drop_all}
use Rattle.std.specs.Option.{option_map, option_or}
use Rattle.account.specs.declared.account.Account.{Account}
use Rattle.table.specs.declared.slot.Slot.{Slot}
use Rattle.table.specs.Tables.{held, at}

-- A look-up that has come to slot i: no slot before i holds part p.
abbrev pub Looked : ℕ → List Slot → ℕ → Type 0
Looked p ss i = at ss p ≡ at (drop i ss) p

module _ (p : ℕ) (ss : List Slot) (i : ℕ) (so_far : Looked p ss i) where
  pub look_all : length ss ≤ i → at ss p ≡ None
  look_all h = so_far ∙ at_drop_all (λ l. at l p) ss i h

  pub look_here : (d : Slot) → i < length ss → (o : Option Account) → o ≡ held p (get_or ss i d)
      → at ss p ≡ option_or (option_map (λ x. record { version = (get_or ss i d).version; account = x }) o) (at (drop (i + 1) ss) p)
  look_here d h o e =
      so_far ∙ at_drop_more (λ l. at l p) ss i d h
      ∙ ap (λ a. option_or (option_map (λ x. record { version = (get_or ss i d).version; account = x }) a) (at (drop (i + 1) ss) p)) (sym e)
