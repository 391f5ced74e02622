pub mod MuxTable
