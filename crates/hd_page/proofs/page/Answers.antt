use Rattle.std.proofs.Common.{refl}
use Rattle.std.proofs.lemmas.List.Sums.{AllPass-from_list_all}
use Rattle.httparse.specs.Grammar.{is_value_byte}
use Rattle.hd_page.specs.declared.text.TheConstants.{POLICY}
use Rattle.hd_page.proofs.page.Goals as goal

-- each byte of the policy may stand in a field
pub invariant_of-result : goal.invariant_of-result
invariant_of-result c = record { readable = AllPass-from_list_all is_value_byte POLICY.now refl }
