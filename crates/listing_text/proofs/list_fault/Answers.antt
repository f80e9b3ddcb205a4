use Rattle.listing_text.proofs.Faults.{fault-behind, prefix-long, size_fits, fault-full, fault-written}
use Rattle.listing_text.proofs.list_fault.Goals as goal

pub slice_bounds-text-end : goal.slice_bounds-text-end
slice_bounds-text-end c = size_fits _ c.args.out.now 0 _ c.fault_line-line.ensures

pub slice_bounds-put_bytes-end : goal.slice_bounds-put_bytes-end
slice_bounds-put_bytes-end c = prefix-long _ c.args.out.now 0 _ c.fault_line-line.ensures

pub returns-in-None : goal.returns-in-None
returns-in-None c =
    fault-full _ _ _ _ c.fault_line-line.ensures c.if-from-ne0.false _ _ c.put_bytes.ensures c.in-None.is

pub returns-in-Some : goal.returns-in-Some
returns-in-Some c =
    fault-written _ _ _ _ c.fault_line-line.ensures c.if-from-ne0.false _ _ c.put_bytes.ensures _ c.in-Some.is

pub returns-then-from-ne0 : goal.returns-then-from-ne0
returns-then-from-ne0 c = fault-behind _ _ _ c.if-from-ne0.true
