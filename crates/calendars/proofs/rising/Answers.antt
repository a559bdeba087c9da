use Rattle.std.proofs.lemmas.List.Sorted.{answers_always}
use Rattle.std.proofs.Common.{rules, ltb}
use Rattle.calendars.proofs.ListLaws.{rising-found}
use Rattle.calendars.proofs.rising.Goals as goal

pub returns : goal.returns
returns c = rising-found _ _ (c.is_sorted_by.ensures.cases (λ x y. ltb x y) (answers_always _ _ _ (λ f a r g h. search rules)))
