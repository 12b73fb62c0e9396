mod Filling
mod Reaching
mod Reporting
