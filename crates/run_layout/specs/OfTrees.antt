-- The listing of each full expression is that of the term of its tree (own).
use Rattle.std.specs.Prelude.{◌≡◌, ◌-◌, ℕ, List, [], map, take, drop, Option, Some, None, slice_get, IsTrue}
use Rattle.std.specs.List.{All}
use Rattle.c_typed.specs.declared.program.Program.{Program}
use Rattle.c_typed.specs.Tree.{Tree, tree_of, size}
use Rattle.core_ir.specs.declared.term.Core.{Core}
use Rattle.core_ir.specs.Term.{term_of, terms_from}
use Rattle.elaborate.specs.Expressions.{program_trees}
use Rattle.elaborate.specs.Formed.{is_formed, EachCounts}
use Rattle.elaborate.specs.Terms.{term_for}
use Rattle.run_layout.specs.declared.expressions.Laid.{Laid}
use Rattle.run_layout.specs.declared.steps.Expression.{Expression}
use Rattle.run_layout.specs.declared.steps.Listed.{Listed}
use Rattle.run_layout.specs.declared.whole.Code.{Code}
use Rattle.run_layout.specs.Listings.{Entry, entries_of, flat}

-- what is laid out of the term of this tree, whose nodes have the operands that their operators take
pub record IsListingOf (entries : List Listed) (tree : Tree) : Type 0 where
  pub laid : entries_of entries ≡ flat (size tree) (term_for 0 tree)
  pub formed : IsTrue (is_formed tree)

-- the entries of a full expression
abbrev pub listing_in : List Listed → Expression → List Listed
listing_in entries e = take (e.end - e.first) (drop e.first entries)

-- they are what is laid out of its tree
abbrev pub HasListing : List Listed → Expression → Type 0
HasListing entries e = IsListingOf (listing_in entries e) (tree_of e.root.now)

-- so they are in code
abbrev pub ListsTrees : Code → Type 0
ListsTrees code = All (HasListing code.listing.items) code.expressions.items

-- The listing of a term, of a full expression with so many nodes; nothing where no term is given (own).
abbrev pub flat_of : ℕ → Option Core → List Entry
flat_of count None = []
flat_of count (Some core) = flat count (term_of core)

-- each full expression has the listing of the term of its number
abbrev pub OfTerms : List Core → List Listed → List Expression → Type 0
OfTerms terms entries es = (n : ℕ) (e : Expression) → slice_get es n ≡ Some e
    → entries_of (listing_in entries e) ≡ flat_of (size (tree_of e.root.now)) (slice_get terms n)

abbrev pub AreOfTerms : List Core → Laid → Type 0
AreOfTerms terms laid = OfTerms terms laid.entries.items laid.all.items

-- the terms are those of the full expressions of the program, where each has fewer nodes than a number of 32 bits counts: as `elaborate` gives them
abbrev pub AreTermsOf : Program → List Core → Type 0
AreTermsOf p cores = EachCounts (program_trees p) → terms_from (map term_of cores) ≡ terms_from (map (term_for 0) (program_trees p))
